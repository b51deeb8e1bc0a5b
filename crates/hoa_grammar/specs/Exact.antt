-- Which texts are read, and as what: "Accepted texts are exactly those of the stated subset's grammar". `Exact.read_exactly`, in proofs/, says that the reader's
-- `read_hoa` gives a job for these texts alone, and this one. Assumes nothing.
use Rattle.std.specs.Prelude.{List, ◌≡◌, ℕ}
use Rattle.job_text.specs.Job.{Job}
use Rattle.hoa_tokens.specs.Stream.{tokens_at}
use Rattle.hoa_grammar.specs.Doc.{Doc, doc_text}
use Rattle.hoa_grammar.specs.Subset.{Says, Limited}
use Rattle.hoa_grammar.specs.Walk.{tokens_of}

-- the bytes are a text of the subset, within the limits, that says the job
pub record ReadAs (text : List ℕ) (j : Job) : Type 0 where
  pub doc : Doc
  pub tokens : tokens_of (tokens_at text 0) ≡ doc_text doc
  pub says : Says doc j
  pub limited : Limited doc j says
