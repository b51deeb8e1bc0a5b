-- Sets of byte strings of which none begins another: what begins one of them, and where bytes stop to. Assumes nothing.
use mathlib.Core.Path.{◌≡◌, refl, sym, ap, subst, ◌∙◌}
use mathlib.Core.List.{List, [], ◌∷◌, ◌++◌, append_assoc, append-nil}
use Prim.Native.Nat.{ℕ, suc, ◌+◌, ◌≤◌, ◌<◌}
use native.Mathlib.Omega.{arith}
use lib.ListN.{length, take, drop, length-append, take-append-drop}
use lib.Seq.{length-take-le, take_all, take-take, take-append_seam, drop-append_seam, take-append-le, drop-append-le, take-append-add}
use Rattle.marks.proofs.Cases.{below}
use Rattle.job_values.specs.Column.{Begins, FirstWrong}
use Rattle.job_values.specs.inner.Field.{Then, Stuck}

-- none of the set begins another
abbrev pub Apart : (List ℕ → Type 0) → Type 0
Apart R = (x rest : List ℕ) → R x → R (x ++ rest) → rest ≡ []

-- ---- two ways to cut a list

-- x' is x and z
pub record Longer (x p x' q : List ℕ) : Type 0 where
  pub more : List ℕ
  pub is : x' ≡ x ++ more
  pub rest : p ≡ more ++ q

pub longer : (x p x' q : List ℕ) → x ++ p ≡ x' ++ q → length x ≤ length x' → Longer x p x' q
longer x p x' q e l =
    let f : take (length x) x' ≡ x = sym (take-append-le (length x) x' q l) ∙ sym (ap (take (length x)) e) ∙ take-append_seam x p in
    record {
      more = drop (length x) x';
      is = sym (take-append-drop (length x) x') ∙ ap (λ (y : List ℕ). y ++ drop (length x) x') f;
      rest = sym (drop-append_seam x p) ∙ ap (drop (length x)) e ∙ drop-append-le (length x) x' q l;
    }

pub empty : (l : List ℕ) → length l ≡ 0 → l ≡ []
empty [] e = refl
empty (x ∷ l) e = absurd (omega (arith, e))

-- two cuts at one place
pub same_cut : (x p x' q : List ℕ) → x ++ p ≡ x' ++ q → length x ≡ length x' → (x ≡ x') × (p ≡ q)
same_cut x p x' q e n =
    let g = longer x p x' q e (omega arith) in
    let z : g.more ≡ [] = empty g.more (omega (arith, length-append x g.more, ap length g.is, n)) in
    (sym (g.is ∙ ap (λ (y : List ℕ). x ++ y) z ∙ append-nil x), g.rest ∙ ap (λ (y : List ℕ). y ++ q) z)

module _ (R : List ℕ → Type 0) (apart : Apart R) where
  same_shorter : (x p x' q : List ℕ) → R x → R x' → x ++ p ≡ x' ++ q → length x ≤ length x' → (x ≡ x') × (p ≡ q)
  same_shorter x p x' q r r' e l =
      let g = longer x p x' q e l in
      let z : g.more ≡ [] = apart x g.more r (subst R g.is r') in
      (sym (g.is ∙ ap (λ (y : List ℕ). x ++ y) z ∙ append-nil x), g.rest ∙ ap (λ (y : List ℕ). y ++ q) z)

  -- one of R at the front of a list is the only one
  pub same_front : (x p x' q : List ℕ) → R x → R x' → x ++ p ≡ x' ++ q → (x ≡ x') × (p ≡ q)
  same_front x p x' q r r' e =
      below (length x') (length x)
      (λ l. let s = same_shorter x' q x p r' r (sym e) (omega arith) in (sym s.0, sym s.1))
      (λ l. same_shorter x p x' q r r' e l)

-- ---- beginnings

-- a beginning of a beginning
pub begins_less : (R : List ℕ → Type 0) (l : List ℕ) (d k : ℕ) → d ≤ k → Begins R (take k l) → Begins R (take d l)
begins_less R l d k h b =
    let e : take k l ++ b.rest ≡ take d l ++ (drop d (take k l) ++ b.rest) =
    ap (λ (y : List ℕ). y ++ b.rest) (sym (take-append-drop d (take k l)) ∙ ap (λ (y : List ℕ). y ++ drop d (take k l)) (take-take d k l h))
    ∙ append_assoc (take d l) (drop d (take k l)) b.rest in
    record { rest = drop d (take k l) ++ b.rest; whole = subst R e b.whole }

module _ (R : List ℕ → Type 0) (l : List ℕ) (k : ℕ) (s : Stuck R l k) where
  -- there is a byte that cannot go on
  pub stuck_in : k < length l
  stuck_in =
      below k (length l) (λ h. h)
      (λ h. absurd (s.no_more (subst (Begins R) (take_all k l h ∙ sym (take_all (suc k) l (omega arith))) s.begins)))

  pub stuck_first : FirstWrong R l (suc k)
  stuck_first = record { none_begins = s.no_more; smallest = λ d h. begins_less R l d k (omega arith) s.begins }

  -- nothing at the front is one of R
  pub stuck_none : Apart R → (x q : List ℕ) → l ≡ x ++ q → R x → ⊥
  stuck_none apart x q e r = below k (length x) far near
    where
      far : k < length x → ⊥
      far h =
          let f : take (suc k) l ≡ take (suc k) x = ap (take (suc k)) e ∙ take-append-le (suc k) x q h in
          s.no_more (record { rest = drop (suc k) x; whole = subst R (sym (ap (λ (y : List ℕ). y ++ drop (suc k) x) f ∙ take-append-drop (suc k) x)) r })

      near : length x ≤ k → ⊥
      near h =
          let b = s.begins in
          let c : l ≡ take k l ++ drop k l = sym (take-append-drop k l) in
          let g = longer x q (take k l) (drop k l) (sym e ∙ c) (omega (arith, length-take-le k l (omega (arith, stuck_in)))) in
          let f : take k l ++ b.rest ≡ x ++ (g.more ++ b.rest) = ap (λ (y : List ℕ). y ++ b.rest) g.is ∙ append_assoc x g.more b.rest in
          let z : g.more ++ b.rest ≡ [] = apart x (g.more ++ b.rest) r (subst R f b.whole) in
          let m : g.more ≡ [] = nothing g.more b.rest z in
          s.short (subst R (sym (g.is ∙ ap (λ (y : List ℕ). x ++ y) m ∙ append-nil x)) r)
        where
          nothing : (p q : List ℕ) → p ++ q ≡ [] → p ≡ []
          nothing [] q e = refl
          nothing (y ∷ p) q e = absurd (let z : ◌≡◌ {A = ℕ} 0 (suc (length (p ++ q))) = sym (ap length e) in omega (arith, z))

-- ---- one of R, then one of S

module _ (R S : List ℕ → Type 0) where
  pub then_apart : Apart R → Apart S → Apart (Then R S)
  then_apart a b x rest t u =
      let e : t.front ++ (t.back ++ rest) ≡ u.front ++ u.back =
      sym (append_assoc t.front t.back rest) ∙ ap (λ (y : List ℕ). y ++ rest) (sym t.is) ∙ u.is in
      let s = same_front R a t.front (t.back ++ rest) u.front u.back t.is_front u.is_front e in
      b t.back rest t.is_back (subst S (sym s.1) u.is_back)

  -- bytes that stop before the end of what R asks
  pub then_front : (l : List ℕ) (k : ℕ) → Apart R → Stuck R l k → (y : List ℕ) → S y → Stuck (Then R S) l k
  then_front l k a s y sy =
      record {
        begins =
            let b = s.begins in
            record {
              rest = b.rest ++ y;
              whole =
                  record { front = take k l ++ b.rest; back = y; is_front = b.whole; is_back = sy; is = sym (append_assoc (take k l) b.rest y) };
            };
        no_more = λ b. no_more b;
        short = λ t. stuck_none R l k s a t.front (t.back ++ drop k l) (front_of t) t.is_front;
      }
    where
      front_of : (t : Then R S (take k l)) → l ≡ t.front ++ (t.back ++ drop k l)
      front_of t = sym (take-append-drop k l) ∙ ap (λ (z : List ℕ). z ++ drop k l) t.is ∙ append_assoc t.front t.back (drop k l)

      no_more : Begins (Then R S) (take (suc k) l) → ⊥
      no_more b =
          let t = b.whole in
          let i : length (take (suc k) l) ≡ suc k = length-take-le (suc k) l (stuck_in R l k s) in
          below k (length t.front)
          (λ h.
          let g = longer (take (suc k) l) b.rest t.front t.back t.is (omega (arith, i)) in
          s.no_more (record { rest = g.more; whole = subst R g.is t.is_front }))
          (λ h.
          let g = longer t.front t.back (take (suc k) l) b.rest (sym t.is) (omega (arith, i)) in
          stuck_none R l k s a t.front (g.more ++ drop (suc k) l)
          (sym (take-append-drop (suc k) l) ∙ ap (λ (z : List ℕ). z ++ drop (suc k) l) g.is ∙ append_assoc t.front g.more (drop (suc k) l))
          t.is_front)

  -- what R asks is there, and the bytes stop after it
  pub then_back : (x m : List ℕ) (k : ℕ) → Apart R → R x → Stuck S m k → Stuck (Then R S) (x ++ m) (length x + k)
  then_back x m k a r s =
      let e : length x + suc k ≡ suc (length x + k) = omega arith in
      record {
        begins =
            let b = s.begins in
            rw (take-append-add x m k) (record { rest = b.rest; whole = record { front = x; back = take k m ++ b.rest; is_front = r; is_back = b.whole; is = append_assoc x (take k m) b.rest } });
        no_more = λ b. no_more (subst (λ (n : ℕ). Begins (Then R S) (take n (x ++ m))) (sym e) b);
        short = λ t. let f = back_of_lem k t in s.short f;
      }
    where
      back_of_lem : (j : ℕ) → Then R S (take (length x + j) (x ++ m)) → S (take j m)
      back_of_lem j t =
          let f = same_front R a x (take j m) t.front t.back r t.is_front (sym (take-append-add x m j) ∙ t.is) in
          subst S (sym f.1) t.is_back

      no_more : Begins (Then R S) (take (length x + suc k) (x ++ m)) → ⊥
      no_more b =
          let t = b.whole in
          let f =
          same_front R a x (take (suc k) m ++ b.rest) t.front t.back r t.is_front
          (sym (append_assoc x (take (suc k) m) b.rest) ∙ ap (λ (z : List ℕ). z ++ b.rest) (sym (take-append-add x m (suc k))) ∙ t.is) in
          s.no_more (record { rest = b.rest; whole = subst S (sym f.1) t.is_back })

-- ---- the same bytes in another set, or in a longer text

pub begins_also : (R S : List ℕ → Type 0) → ((l : List ℕ) → R l → S l) → (bs : List ℕ) → Begins R bs → Begins S bs
begins_also R S f bs b = record { rest = b.rest; whole = f (bs ++ b.rest) b.whole }

pub stuck_also : (R S : List ℕ → Type 0) → ((l : List ℕ) → R l → S l) → ((l : List ℕ) → S l → R l) → (l : List ℕ) (k : ℕ) → Stuck R l k → Stuck S l k
stuck_also R S f g l k s =
    record { begins = begins_also R S f (take k l) s.begins; no_more = λ b. s.no_more (begins_also S R g (take (suc k) l) b); short = λ t. s.short (g (take k l) t) }

pub stuck_cut : (R : List ℕ → Type 0) (p q : List ℕ) (k : ℕ) → k < length p → Stuck R (p ++ q) k → Stuck R p k
stuck_cut R p q k h s =
    let e : take k (p ++ q) ≡ take k p = take-append-le k p q (omega arith) in
    let f : take (suc k) (p ++ q) ≡ take (suc k) p = take-append-le (suc k) p q h in
    record { begins = subst (Begins R) e s.begins; no_more = λ b. s.no_more (subst (Begins R) (sym f) b); short = λ t. s.short (subst R (sym e) t) }

pub stuck_grow : (R : List ℕ → Type 0) (p q : List ℕ) (k : ℕ) → k < length p → Stuck R p k → Stuck R (p ++ q) k
stuck_grow R p q k h s =
    let e : take k (p ++ q) ≡ take k p = take-append-le k p q (omega arith) in
    let f : take (suc k) (p ++ q) ≡ take (suc k) p = take-append-le (suc k) p q h in
    record { begins = subst (Begins R) (sym e) s.begins; no_more = λ b. s.no_more (subst (Begins R) f b); short = λ t. s.short (subst R e t) }
