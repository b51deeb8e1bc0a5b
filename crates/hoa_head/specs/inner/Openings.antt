-- `HOA: v1`. Assumes nothing.
use Rattle.std.specs.Prelude.{◌≡◌, Option, Some, None, Result, List, ℕ}
use Rattle.hoa_tokens.specs.declared.BadToken.{BadToken}
use Rattle.hoa_tokens.specs.declared.Kind.{Kind}
use Rattle.hoa_tokens.specs.declared.Kind.TheVariants as kind_is
use Rattle.hoa_tokens.specs.declared.Word.{Word}
use Rattle.hoa_tokens.specs.declared.Word.TheVariants as word_is
use Rattle.hoa_tokens.specs.declared.Header.{Header}
use Rattle.hoa_tokens.specs.declared.Header.TheVariants as header_is
use Rattle.hoa_tokens.specs.Stream.{tokens_at}
use Rattle.hoa_step.specs.Machine.{run}
use Rattle.hoa_value.specs.Head.{blank}
use Rattle.hoa_value.specs.Heading.{opening, items, head_step}
use Rattle.hoa_value.specs.inner.Values.{passed_end, PassedIn}

-- `HOA: v1`
pub record OpeningRead (text : List ℕ) (r : Result ℕ BadToken) : Type 0 where
  pub says : run head_step (tokens_at text 0) opening ≡ passed_end text (items blank) r
  pub stays : PassedIn text 0 r

-- ---- the two tokens in front, by their kinds: the number of the fault

-- `HOA:` among the headers
abbrev pub opening_fault : Header → Option ℕ
opening_fault header_is.Hoa = None
opening_fault header_is.States = Some 40
opening_fault header_is.Start = Some 40
opening_fault header_is.Ap = Some 40
opening_fault header_is.Alias = Some 40
opening_fault header_is.Acceptance = Some 40
opening_fault header_is.AccName = Some 40
opening_fault header_is.Tool = Some 40
opening_fault header_is.Name = Some 40
opening_fault header_is.Properties = Some 40
opening_fault header_is.State = Some 40
opening_fault header_is.Capital = Some 40
opening_fault header_is.Lower = Some 40

-- `HOA:`
abbrev pub opening_kind : Kind → Option ℕ
opening_kind (kind_is.Header h) = opening_fault h
opening_kind (kind_is.Sign s) = Some 40
opening_kind kind_is.Body = Some 40
opening_kind (kind_is.Word w) = Some 40
opening_kind (kind_is.Int n) = Some 40
opening_kind kind_is.Quoted = Some 40
opening_kind kind_is.Abort = Some 40
opening_kind kind_is.Alias = Some 40
opening_kind kind_is.End = Some 40
opening_kind kind_is.Finish = Some 40
opening_kind kind_is.Bad = Some 40

-- `v1` among the words
abbrev pub version_fault : Word → Option ℕ
version_fault word_is.V1 = None
version_fault word_is.True = Some 41
version_fault word_is.False = Some 41
version_fault word_is.Inf = Some 41
version_fault word_is.Fin = Some 41
version_fault word_is.Other = Some 41

-- `v1`
abbrev pub version_kind : Kind → Option ℕ
version_kind (kind_is.Word w) = version_fault w
version_kind (kind_is.Header h) = Some 40
version_kind (kind_is.Sign s) = Some 40
version_kind kind_is.Body = Some 40
version_kind (kind_is.Int n) = Some 40
version_kind kind_is.Quoted = Some 40
version_kind kind_is.Abort = Some 41
version_kind kind_is.Alias = Some 40
version_kind kind_is.End = Some 40
version_kind kind_is.Finish = Some 40
version_kind kind_is.Bad = Some 40
