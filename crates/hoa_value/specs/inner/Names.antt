-- The names of AP:, where they stand in the text. Assumes nothing.
use Rattle.std.specs.Prelude.{◌≡◌, Result, Ok, Err, List, [], ◌∷◌, ℕ, ◌≤◌, ◌<◌, length, map, reverse}
use Rattle.std.proofs.Common.{Bor}
use Rattle.hoa_tokens.specs.declared.BadToken.{BadToken}
use Rattle.hoa_tokens.specs.Stream.{tokens_at}
use Rattle.hoa_step.specs.Machine.{End, wrong_at, run}
use Rattle.hoa_value.specs.declared.Head.{Head}
use Rattle.hoa_value.specs.declared.names.NameRead.{NameRead}
use Rattle.hoa_value.specs.Head.{with_props}
use Rattle.hoa_value.specs.Heading.{items, names, head_step}
use Rattle.hoa_value.specs.inner.Values.{passed_end, PassedIn}

-- these names, the last one first
unfoldable pub name_list : List (Bor (List ℕ)) → List (List ℕ)
name_list ns = reverse (map (λ n. n.now) ns)

-- a further name and the byte behind it, or the refusal
abbrev pub name_end : List ℕ → ℕ → List (List ℕ) → Head → Result NameRead BadToken → End Head
name_end text a ns h (Ok r) = run head_step (tokens_at text r.next) (names a (r.name.now ∷ ns) h)
name_end text a ns h (Err bad) = wrong_at bad.number bad.place

-- all of it in the text, from here on
abbrev pub NameIn : List ℕ → ℕ → Result NameRead BadToken → Type 0
NameIn text low (Ok r) = (low ≤ r.next) × (r.next ≤ length text)
NameIn text low (Err bad) = bad.place ≤ length text

-- a name behind these, of more than they are
pub record OneName (text : List ℕ) (before : List (Bor (List ℕ))) (at : ℕ) (r : Result NameRead BadToken) : Type 0 where
  pub says : (a : ℕ) (h : Head) → length before < a
      → run head_step (tokens_at text at) (names a (name_list before) h) ≡ name_end text a (name_list before) h r
  pub stays : NameIn text at r

-- behind all names
pub record NamesOver (text : List ℕ) (at : ℕ) (r : Result ℕ BadToken) : Type 0 where
  pub says : (a : ℕ) (ns : List (List ℕ)) (h : Head) → length ns ≡ a → run head_step (tokens_at text at) (names a ns h) ≡ passed_end text (items (with_props a h)) r
  pub stays : PassedIn text at r

-- all names, whatever else the header says
pub record NamesRead (text : List ℕ) (at a : ℕ) (r : Result ℕ BadToken) : Type 0 where
  pub says : (h : Head) → run head_step (tokens_at text at) (names a [] h) ≡ passed_end text (items (with_props a h)) r
  pub stays : PassedIn text at r
