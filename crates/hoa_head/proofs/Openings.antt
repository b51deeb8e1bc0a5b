-- `HOA: v1`: the fault of a token by its kind, and what the machine does. Assumes nothing.
use mathlib.Core.Path.{◌≡◌, refl, ◌∙◌}
use mathlib.Core.List.{List}
use Prim.Native.Nat.{ℕ}
use native.Mathlib.Omega.{arith}
use Rattle.std.specs.Prelude.{Option, Some, None, Ok, Err}
use Rattle.hoa_tokens.specs.declared.Kind.{Kind}
use Rattle.hoa_tokens.specs.declared.Kind.TheVariants as kind_is
use Rattle.hoa_tokens.specs.declared.Header.{Header}
use Rattle.hoa_tokens.specs.declared.Header.TheVariants as header_is
use Rattle.hoa_tokens.specs.declared.Word.{Word}
use Rattle.hoa_tokens.specs.declared.Word.TheVariants as word_is
use Rattle.hoa_tokens.specs.declared.Found.{Found}
use Rattle.hoa_tokens.specs.Stream.{tokens_at, token_of, TokenAt}
use Rattle.hoa_tokens.proofs.Next.{tokens_next, unless_kind}
use Rattle.hoa_step.specs.Machine.{run}
use Rattle.hoa_step.specs.Wanted.{Next}
use Rattle.hoa_step.proofs.Runs.{first_goes, first_wrong}
use Rattle.hoa_step.proofs.Wants.{found_next}
use Rattle.hoa_value.specs.Head.{blank}
use Rattle.hoa_value.specs.Heading.{opening, version, items, head_step, opening_header, on_opening, version_word, on_version}
use Rattle.hoa_head.specs.inner.Openings.{opening_fault, opening_kind, version_fault, version_kind}
use Rattle.hoa_head.specs.inner.Openings.{OpeningRead}
use Rattle.hoa_value.proofs.Values.{step_by}

opening_header_lem : (h : Header) → opening_header h ≡ step_by (opening_fault h) version
opening_header_lem header_is.Hoa = refl
opening_header_lem header_is.States = refl
opening_header_lem header_is.Start = refl
opening_header_lem header_is.Ap = refl
opening_header_lem header_is.Alias = refl
opening_header_lem header_is.Acceptance = refl
opening_header_lem header_is.AccName = refl
opening_header_lem header_is.Tool = refl
opening_header_lem header_is.Name = refl
opening_header_lem header_is.Properties = refl
opening_header_lem header_is.State = refl
opening_header_lem header_is.Capital = refl
opening_header_lem header_is.Lower = refl

on_opening_lem : (text : List ℕ) (a b : ℕ) (k : Kind) → on_opening (token_of text a b k) ≡ step_by (opening_kind k) version
unfolding on_opening
on_opening_lem text a b (kind_is.Int n) = refl
on_opening_lem text a b (kind_is.Word w) = refl
on_opening_lem text a b (kind_is.Header h) = opening_header_lem h
on_opening_lem text a b kind_is.Quoted = refl
on_opening_lem text a b kind_is.Alias = refl
on_opening_lem text a b (kind_is.Sign s) = refl
on_opening_lem text a b kind_is.Body = refl
on_opening_lem text a b kind_is.End = refl
on_opening_lem text a b kind_is.Abort = refl
on_opening_lem text a b kind_is.Finish = refl
on_opening_lem text a b kind_is.Bad = refl

version_word_lem : (w : Word) → version_word w ≡ step_by (version_fault w) (items blank)
version_word_lem word_is.V1 = refl
version_word_lem word_is.True = refl
version_word_lem word_is.False = refl
version_word_lem word_is.Inf = refl
version_word_lem word_is.Fin = refl
version_word_lem word_is.Other = refl

on_version_lem : (text : List ℕ) (a b : ℕ) (k : Kind) → on_version (token_of text a b k) ≡ step_by (version_kind k) (items blank)
unfolding on_version
on_version_lem text a b (kind_is.Int n) = refl
on_version_lem text a b (kind_is.Word w) = version_word_lem w
on_version_lem text a b (kind_is.Header h) = refl
on_version_lem text a b kind_is.Quoted = refl
on_version_lem text a b kind_is.Alias = refl
on_version_lem text a b (kind_is.Sign s) = refl
on_version_lem text a b kind_is.Body = refl
on_version_lem text a b kind_is.End = refl
on_version_lem text a b kind_is.Abort = refl
on_version_lem text a b kind_is.Finish = refl
on_version_lem text a b kind_is.Bad = refl

-- the text's end is at fault at both places
opening_no_end : (k : Kind) → opening_kind k ≡ None → k ≡ kind_is.Finish → ⊥
opening_no_end k e q = let z : ◌≡◌ {A = Option ℕ} (Some 40) None = rw q at e in cc

version_no_end : (k : Kind) → version_kind k ≡ None → k ≡ kind_is.Finish → ⊥
version_no_end k e q = let z : ◌≡◌ {A = Option ℕ} (Some 40) None = rw q at e in cc

module _ (text : List ℕ) (f : Found) (h : TokenAt text 0 f) where
  pub opening_wrong : (n : ℕ) → opening_kind f.kind ≡ Some n → OpeningRead text (Err (record { number = n; place = f.first }))
  unfolding head_step
  opening_wrong n e =
      record {
        says = first_wrong head_step text 0 (tokens_next text 0 f h) n (on_opening_lem text f.first f.next f.kind ∙ rw e);
        stays = omega (arith, h.behind_first, h.within (omega arith));
      }

  opening_next : opening_kind f.kind ≡ None → Next text 0 f.first f.next (token_of text f.first f.next f.kind)
  opening_next e =
      let k = opening_no_end f.kind e in
      found_next f h _ refl k (unless_kind text f.first f.next f.kind (tokens_at text f.next) k)

  opening_goes : opening_kind f.kind ≡ None → run head_step (tokens_at text 0) opening ≡ run head_step (tokens_at text f.next) version
  unfolding head_step
  opening_goes e = first_goes head_step text 0 (opening_next e).is version (on_opening_lem text f.first f.next f.kind ∙ rw e)

  module _ (o : opening_kind f.kind ≡ None) (g : Found) (i : TokenAt text f.next g) where
    pub version_wrong : (n : ℕ) → version_kind g.kind ≡ Some n → OpeningRead text (Err (record { number = n; place = g.first }))
    unfolding head_step
    version_wrong n e =
        record {
          says = opening_goes o ∙ first_wrong head_step text f.next (tokens_next text f.next g i) n (on_version_lem text g.first g.next g.kind ∙ rw e);
          stays = omega (arith, i.behind_first, i.within (opening_next o).within);
        }

    version_next : version_kind g.kind ≡ None → Next text f.next g.first g.next (token_of text g.first g.next g.kind)
    version_next e =
        let k = version_no_end g.kind e in
        found_next g i _ refl k (unless_kind text g.first g.next g.kind (tokens_at text g.next) k)

    pub version_goes : version_kind g.kind ≡ None → OpeningRead text (Ok g.next)
    unfolding head_step
    version_goes e =
        record {
          says = opening_goes o ∙ first_goes head_step text f.next (version_next e).is (items blank) (on_version_lem text g.first g.next g.kind ∙ rw e);
          stays = (omega arith, (version_next e).within);
        }
