-- What the readers of values say: the value is of the form and says this, or it is not, and this is the first byte that cannot go on. Assumes nothing.
use Rattle.std.specs.Prelude.{◌≡◌, true, false, List, ℕ, ◌+◌, Result, Ok, Err}
use Rattle.std.proofs.Math.Option.{Option, some, none}
use Rattle.table.specs.Row.{part}
use Rattle.job_values.specs.declared.value.Form.{Form}
use Rattle.job_values.specs.declared.value.Kind.{Kind}
use Rattle.job_values.specs.declared.value.Edge.{Edge as EdgeRead}
use Rattle.job_values.specs.Bytes.{newline, same}
use Rattle.job_values.specs.Value.{Edge, text_form, kind, edge, end as end_word}
use Rattle.job_values.specs.inner.Field.{Ended, Lost, agree}

pub record Unformed {A : Type 0} (form : List ℕ → Option A) (text : List ℕ) (at end e : ℕ) : Type 0 where
  pub none_said : form (part at end text) ≡ none
  pub lost : Lost (Ended newline form) text at end e

-- the value is the word, or agrees with it up to this place
abbrev pub WordAt : List ℕ → ℕ → ℕ → List ℕ → Result (Unit {0}) ℕ → Type 0
WordAt text at end word (Ok u) = same (part at end text) word ≡ true
WordAt text at end word (Err e) = (same (part at end text) word ≡ false) × (e ≡ at + agree (part at end text) word)

-- the value is of the form and says this, in the reader's words, or it is not
abbrev pub ValueAs : {A B : Type 0} → (B → A) → (List ℕ → Option A) → List ℕ → ℕ → ℕ → Result B ℕ → Type 0
ValueAs in_words form text at end (Ok b) = form (part at end text) ≡ some (in_words b)
ValueAs in_words form text at end (Err e) = Unformed form text at end e

abbrev pub EndAt : List ℕ → ℕ → ℕ → Result (Unit {0}) ℕ → Type 0
EndAt text at end r = ValueAs (λ u. u) end_word text at end r

abbrev pub KindAt : List ℕ → ℕ → ℕ → Result Kind ℕ → Type 0
KindAt text at end r = ValueAs (λ k. k) kind text at end r

abbrev pub FormAt : List ℕ → ℕ → ℕ → Result Form ℕ → Type 0
FormAt text at end r = ValueAs (λ f. f) text_form text at end r

-- an edge, in the words of Value.antt
abbrev pub edge_in_words : EdgeRead → Edge
edge_in_words e = record { from = e.from; to = e.to; marks = e.marks }

abbrev pub EdgeAt : List ℕ → ℕ → ℕ → Result EdgeRead ℕ → Type 0
EdgeAt text at end r = ValueAs edge_in_words edge text at end r

abbrev pub ListAt : (List ℕ → Option (List ℕ)) → List ℕ → ℕ → ℕ → Result (List ℕ) ℕ → Type 0
ListAt form text at end r = ValueAs (λ ns. ns) form text at end r
