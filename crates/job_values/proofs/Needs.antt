-- A list of needs is its fields, each with the byte that ends it; where one of them stops, the list does. Assumes nothing.
use mathlib.Core.Path.{◌≡◌, refl, sym, ap, subst, ◌∙◌}
use mathlib.Core.Bool.{true, false, false≢true}
use mathlib.Core.List.{List, [], ◌∷◌, ◌++◌, append_assoc}
use mathlib.Core.Option.{Option, some, none}
use Prim.Native.Nat.{ℕ, zero, suc, ◌+◌, ◌-◌, ◌≤◌, ◌<◌, zero-le}
use native.Mathlib.Omega.{arith}
use lib.ListN.{length, set, take, drop, replicate, length-append, length-drop, take-append-drop}
use lib.Seq.{take-append-add, drop-cons}
use borrow.Author.Tests.{ltb-true}
use Rattle.marks.proofs.Cases.{below}
use Rattle.table.specs.Refusal.{most_rabin}
use Rattle.table.specs.Row.{part}
use Rattle.job_values.specs.declared.value.Kind.{Kind}
use Rattle.job_values.specs.declared.value.Kind.TheVariants.{Buchi, Streett, Rabin}
use Rattle.job_values.specs.Bytes.{newline, comma, fields, same, ahead}
use Rattle.job_values.specs.Number.{and_then, number}
use Rattle.job_values.specs.Value.{padded, eight, listed, dash, has_needs, most_count, needs}
use Rattle.job_values.specs.Column.{given}
use Rattle.job_values.specs.inner.Field.{Within, Ended, Then, Got, Lost, agree}
use Rattle.std.specs.Prelude.{Result, Ok, Err}
use Rattle.job_values.specs.inner.Told.{Unformed, ListAt}
use Rattle.job_values.proofs.Pad.{pad_more}
use Rattle.job_values.proofs.Cut.{by_test, fields_cut, fields_uncut}
use Rattle.job_values.proofs.Sets.{Apart, then_apart, stuck_also}
use Rattle.job_values.proofs.Numbers.{zero_number}
use Rattle.job_values.proofs.Fields.{ahead_here, given_some}
use Rattle.job_values.proofs.Losses.{part_is, got_within, lost_front, lost_back, lost_unformed}
use Rattle.job_values.proofs.Spoken.{same_is, same_refl, only_unformed}
use Rattle.job_values.proofs.Edges.{comma_digit, newline_digit, number_free, numbers_apart, joined, joined_fields, fields_front, fields_last, given_is}

-- k numbers with a comma behind each, and one with the newline byte
abbrev pub NeedSet : ℕ → List ℕ → Type 0
NeedSet zero = Ended newline number
NeedSet (suc k) = Then (Ended comma number) (NeedSet k)

pub needs_apart : (k : ℕ) → Apart (NeedSet k)
needs_apart zero = numbers_apart newline newline_digit
needs_apart (suc k) = then_apart (Ended comma number) (NeedSet k) (numbers_apart comma comma_digit) (needs_apart k)

-- there is a list of each length
record Some (R : List ℕ → Type 0) : Type 0 where
  one : List ℕ
  is_one : R one

needs_some : (k : ℕ) → Some (NeedSet k)
needs_some zero = record { one = 48 ∷ 10 ∷ []; is_one = record { value = 48 ∷ []; right = given_some (number (48 ∷ [])) 0 zero_number; is = refl } }
needs_some (suc k) =
    let s = needs_some k in
    record {
      one = (48 ∷ 44 ∷ []) ++ s.one;
      is_one = record { front = 48 ∷ 44 ∷ []; back = s.one; is_front = record { value = 48 ∷ []; right = given_some (number (48 ∷ [])) 0 zero_number; is = refl }; is_back = s.is_one; is = refl };
    }

-- ---- the fields of a list

-- exactly k + 1 numbers
abbrev pub Listed : ℕ → List ℕ → Option (List ℕ)
Listed k v = listed (suc k) (fields v)

listed_one : (f : List ℕ) (d : ℕ) → number f ≡ some d → listed 1 (f ∷ []) ≡ some (d ∷ [])
unfolding listed
listed_one f d e = rw e

listed_more : (k : ℕ) (f : List ℕ) (fs : List (List ℕ)) (d : ℕ) (ds : List ℕ) → number f ≡ some d → listed k fs ≡ some ds → listed (suc k) (f ∷ fs) ≡ some (d ∷ ds)
unfolding listed
listed_more k f fs d ds e h = rw (e, h)

record First (k : ℕ) (fs : List (List ℕ)) : Type 0 where
  f : List ℕ
  rest : List (List ℕ)
  are : fs ≡ f ∷ rest
  is_f : given (number f) ≡ true
  is_rest : given (listed k rest) ≡ true

first : (k : ℕ) (fs : List (List ℕ)) → given (listed (suc k) fs) ≡ true → First k fs
unfolding listed
first k [] g = absurd (false≢true g)
first k (f ∷ fs) g = go (number f) (listed k fs) refl refl g
  where
    go : (a : Option ℕ) (b : Option (List ℕ)) → number f ≡ a → listed k fs ≡ b → given (and_then a (λ d. and_then b (λ ds. some (d ∷ ds)))) ≡ true → First k (f ∷ fs)
    go none b p q h = absurd (false≢true h)
    go (some d) none p q h = absurd (false≢true h)
    go (some d) (some ds) p q h = record { f = f; rest = fs; are = refl; is_f = given_some (number f) d p; is_rest = given_some (listed k fs) ds q }

no_fields : (fs : List (List ℕ)) → given (listed 0 fs) ≡ true → fs ≡ []
unfolding listed
no_fields [] g = refl
no_fields (f ∷ fs) g = absurd (false≢true g)

nil_given : (k : ℕ) → given (listed (suc k) []) ≡ true → ⊥
unfolding listed
nil_given k g = false≢true g

head_is : {A : Type 0} {x y : A} {xs ys : List A} → x ∷ xs ≡ y ∷ ys → x ≡ y
head_is e = cc

tail_is : {A : Type 0} {x y : A} {xs ys : List A} → x ∷ xs ≡ y ∷ ys → xs ≡ ys
tail_is e = cc

-- ---- the set of lists

needs_in : (k : ℕ) (v : List ℕ) → given (Listed k v) ≡ true → NeedSet k (v ++ (newline ∷ []))
needs_in zero v g =
    let q = first 0 (fields v) g in
    let e : fields v ≡ q.f ∷ [] = q.are ∙ ap (λ (z : List (List ℕ)). q.f ∷ z) (no_fields q.rest q.is_rest) in
    let i : v ≡ q.f = sym (joined_fields v) ∙ ap joined e in
    record { value = q.f; right = q.is_f; is = ap (λ (z : List ℕ). z ++ (newline ∷ [])) i }
needs_in (suc k) v g =
    let q = first (suc k) (fields v) g in
    below (ahead comma v) (length v)
    (λ l.
    let c = fields_cut v l in
    let e : take (ahead comma v) v ∷ fields (drop (suc (ahead comma v)) v) ≡ q.f ∷ q.rest = sym c ∙ q.are in
    let f : q.f ≡ take (ahead comma v) v = sym (head_is e) in
    let r : q.rest ≡ fields (drop (suc (ahead comma v)) v) = sym (tail_is e) in
    let b = drop (suc (ahead comma v)) v in
    let i : v ≡ (q.f ++ (comma ∷ [])) ++ b = split v l ∙ ap (λ (z : List ℕ). z ++ (comma ∷ b)) (sym f) ∙ sym (append_assoc q.f (comma ∷ []) b) in
    record {
      front = q.f ++ (comma ∷ []);
      back = b ++ (newline ∷ []);
      is_front = record { value = q.f; right = q.is_f; is = refl };
      is_back = needs_in k b (rw r at q.is_rest);
      is = ap (λ (z : List ℕ). z ++ (newline ∷ [])) i ∙ append_assoc (q.f ++ (comma ∷ [])) b (newline ∷ []);
    })
    (λ l.
    let e : v ∷ [] ≡ q.f ∷ q.rest = sym (fields_uncut v l) ∙ q.are in
    absurd (nil_given k (rw (sym (tail_is e)) at q.is_rest)))
  where
    split : (v : List ℕ) → ahead comma v < length v → v ≡ take (ahead comma v) v ++ (comma ∷ drop (suc (ahead comma v)) v)
    split v l = sym (take-append-drop (ahead comma v) v) ∙ ap (λ (z : List ℕ). take (ahead comma v) v ++ z) (drop-cons v (ahead comma v) 0 l ∙ rw (ahead_here comma v l))

-- a list that is given
given_list : (o : Option (List ℕ)) → given o ≡ true → (ds : List ℕ) × (o ≡ some ds)
given_list none g = absurd (false≢true g)
given_list (some ds) g = (ds, refl)

needs_out : (k : ℕ) (l : List ℕ) → NeedSet k l → Ended newline (Listed k) l
needs_out zero l r =
    let x = given_is (number r.value) r.right in
    let e : Listed 0 r.value ≡ some (x.0 ∷ []) = rw (fields_last r.value (number_free comma comma_digit r.value r.right)) (listed_one r.value x.0 x.1) in
    record { value = r.value; right = given_some (Listed 0 r.value) (x.0 ∷ []) e; is = r.is }
needs_out (suc k) l r =
    let f = r.is_front in
    let b = needs_out k r.back r.is_back in
    let x = given_is (number f.value) f.right in
    let y = given_list (Listed k b.value) b.right in
    let v = f.value ++ (comma ∷ b.value) in
    let e : Listed (suc k) v ≡ some (x.0 ∷ y.0) =
    rw (fields_front f.value b.value (number_free comma comma_digit f.value f.right)) (listed_more (suc k) f.value (fields b.value) x.0 y.0 x.1 y.1) in
    record {
      value = v;
      right = given_some (Listed (suc k) v) (x.0 ∷ y.0) e;
      is =
          r.is ∙ ap (λ (z : List ℕ). z ++ r.back) f.is ∙ ap (λ (z : List ℕ). (f.value ++ (comma ∷ [])) ++ z) b.is
          ∙ append_assoc f.value (comma ∷ []) (b.value ++ (newline ∷ [])) ∙ sym (append_assoc f.value (comma ∷ b.value) (newline ∷ []));
    }

-- ---- a list in a line, field by field

-- the value up to the newline byte, behind a field
part_behind : (text : List ℕ) (at end x next : ℕ) → Within text at end → (g : Got comma number text at end x next) → part at end text ≡ g.value ++ (comma ∷ part next end text)
part_behind text at end x next w g =
    let v = got_within text at end w number x next g in
    let n : length (g.value ++ (comma ∷ [])) + (end - next) ≡ end - at =
    omega (arith, ap length g.is, length-append g.value (comma ∷ drop next text), length-append g.value (comma ∷ []), length-drop at text, length-drop next text, g.behind, v.ordered, w.ends) in
    let f : drop at text ≡ (g.value ++ (comma ∷ [])) ++ drop next text = g.is ∙ sym (append_assoc g.value (comma ∷ []) (drop next text)) in
    ap (take (end - at)) f ∙ ap (λ (m : ℕ). take m ((g.value ++ (comma ∷ [])) ++ drop next text)) (sym n)
    ∙ take-append-add (g.value ++ (comma ∷ [])) (drop next text) (end - next) ∙ append_assoc g.value (comma ∷ []) (part next end text)

-- after i fields: their numbers stand in the first cells, and what follows decides
pub record SoFar (text : List ℕ) (at end last : ℕ) (cells : List ℕ) (next i : ℕ) : Type 0 where
  pub given_so : List ℕ
  pub many : length given_so ≡ i
  pub few : i ≤ last
  pub held : cells ≡ padded given_so
  pub within : Within text next end
  pub lost_so : (e : ℕ) → Lost (NeedSet (last - i)) text next end e → Lost (NeedSet last) text at end e
  pub said_so : (es : List ℕ) → Listed (last - i) (part next end text) ≡ some es → Listed last (part at end text) ≡ some (given_so ++ es)

pub so_far_none : (text : List ℕ) (at end last : ℕ) → Within text at end → SoFar text at end last (replicate most_rabin 0) at 0
so_far_none text at end last w =
    let z : last - 0 ≡ last = omega arith in
    record {
      given_so = [];
      many = refl;
      few = zero-le;
      held = refl;
      within = w;
      lost_so = λ e l. subst (λ (n : ℕ). Lost (NeedSet n) text at end e) z l;
      said_so = λ es h. subst (λ (n : ℕ). Listed n (part at end text) ≡ some es) z h;
    }

module _ (text : List ℕ) (at end last : ℕ) (cells : List ℕ) (next i : ℕ) (w : Within text at end) (s : SoFar text at end last cells next i) where
  list_unformed : (e : ℕ) → Lost (NeedSet last) text at end e → Unformed (Listed last) text at end e
  list_unformed e l =
      lost_unformed text at end w (Listed last) (NeedSet last) (needs_apart last) (λ m r. subst (NeedSet last) (sym r.is) (needs_in last r.value r.right)) (needs_out last) e l

  module _ (h : i < last) where
    left : last - i ≡ suc (last - (i + 1))
    left = omega arith

    -- a field with a comma
    pub field_lost : (e : ℕ) → Lost (Ended comma number) text next end e → Unformed (Listed last) text at end e
    field_lost e l =
        let o = needs_some (last - (i + 1)) in
        list_unformed e (s.lost_so e (subst (λ (n : ℕ). Lost (NeedSet n) text next end e) (sym left) (lost_front text next end (Ended comma number) (NeedSet (last - (i + 1))) e (numbers_apart comma comma_digit) l o.one o.is_one)))

    pub field_got : (d after : ℕ) → Got comma number text next end d after → last < most_rabin → SoFar text at end last (set cells i d) after (i + 1)
    field_got d after g c =
        record {
          given_so = s.given_so ++ (d ∷ []);
          many = omega (arith, length-append s.given_so (d ∷ []), s.many);
          few = omega arith;
          held = rw (s.held, ← s.many) (pad_more most_rabin s.given_so d (omega (arith, s.many)));
          within = got_within text next end s.within number d after g;
          lost_so = λ e l. s.lost_so e (subst (λ (n : ℕ). Lost (NeedSet n) text next end e) (sym left) (lost_back text next end comma number (NeedSet (last - (i + 1))) d after g e (numbers_apart comma comma_digit) l));
          said_so = λ es q. s.said_so (d ∷ es) (more es q) ∙ ap some (sym (append_assoc s.given_so (d ∷ []) es));
        }
      where
        more : (es : List ℕ) → Listed (last - (i + 1)) (part after end text) ≡ some es → Listed (last - i) (part next end text) ≡ some (d ∷ es)
        more es q =
            let f : fields (part next end text) ≡ g.value ∷ fields (part after end text) =
            ap fields (part_behind text next end d after s.within g) ∙ fields_front g.value (part after end text) (number_free comma comma_digit g.value (given_some (number g.value) d g.says)) in
            rw (left, f) (listed_more (suc (last - (i + 1))) g.value (fields (part after end text)) d es g.says q)

  -- the last field
  module _ (h : i ≡ last) where
    done : last - i ≡ 0
    done = omega arith

    pub last_lost : (e : ℕ) → Lost (Ended newline number) text next end e → Unformed (Listed last) text at end e
    last_lost e l = list_unformed e (s.lost_so e (subst (λ (n : ℕ). Lost (NeedSet n) text next end e) (sym done) l))

    pub last_got : (d after : ℕ) → Got newline number text next end d after → last < most_rabin → eight (Listed last (part at end text)) ≡ some (set cells last d)
    last_got d after g c =
        let free = number_free newline newline_digit g.value (given_some (number g.value) d g.says) in
        let p : part next end text ≡ g.value = part_is text next end s.within g.value free (drop after text) g.is in
        let q : Listed 0 (part next end text) ≡ some (d ∷ []) =
        rw (p, fields_last g.value (number_free comma comma_digit g.value (given_some (number g.value) d g.says))) (listed_one g.value d g.says) in
        let a : Listed last (part at end text) ≡ some (s.given_so ++ (d ∷ [])) = s.said_so (d ∷ []) (subst (λ (n : ℕ). Listed n (part next end text) ≡ some (d ∷ [])) (sym done) q) in
        let k : length s.given_so ≡ last = s.many ∙ h in
        rw a (ap some (sym (rw (s.held, ← k) (pad_more most_rabin s.given_so d (omega (arith, k))))))

-- ---- the same values under another form

given_false : {A : Type 0} (o : Option A) → given o ≡ false → o ≡ none
given_false none g = refl
given_false (some a) g = absurd (false≢true (sym g))

pub unformed_also : {A B : Type 0} (f : List ℕ → Option A) (g : List ℕ → Option B) → ((v : List ℕ) → given (f v) ≡ given (g v))
    → (text : List ℕ) (at end e : ℕ) → Unformed f text at end e → Unformed g text at end e
unformed_also f g h text at end e u =
    record {
      none_said = given_false (g (part at end text)) (sym (h (part at end text)) ∙ rw u.none_said);
      lost =
          record {
            ordered = u.lost.ordered;
            ends = u.lost.ends;
            stuck =
                stuck_also (Ended newline f) (Ended newline g) (λ l r. record { value = r.value; right = sym (h r.value) ∙ r.right; is = r.is })
                (λ l r. record { value = r.value; right = h r.value ∙ r.right; is = r.is }) (drop at text) (e - at) u.lost.stuck;
          };
    }

given_eight : (o : Option (List ℕ)) → given o ≡ given (eight o)
given_eight none = refl
given_eight (some ds) = refl

module _ (text : List ℕ) (at end count : ℕ) (some_count : 0 < count) where
  whole : suc (count - 1) ≡ count
  whole = omega arith

  pub eight_lost : (e : ℕ) → Unformed (Listed (count - 1)) text at end e → Unformed (λ bs. eight (listed count (fields bs))) text at end e
  eight_lost e u =
      unformed_also (Listed (count - 1)) (λ bs. eight (listed count (fields bs)))
      (λ v. ap (λ (n : ℕ). given (listed n (fields v))) whole ∙ given_eight (listed count (fields v))) text at end e u

  pub eight_got : (cells : List ℕ) → eight (Listed (count - 1) (part at end text)) ≡ some cells → eight (listed count (fields (part at end text))) ≡ some cells
  eight_got cells e = ap (λ (n : ℕ). eight (listed n (fields (part at end text)))) (sym whole) ∙ e

-- ---- `-`, or numbers

dash_free : ahead newline dash ≡ 1
unfolding ahead
dash_free = refl

module _ (k : Kind) (count : ℕ) where
  pub listed_needs : has_needs k count ≡ true → (v : List ℕ) → eight (listed count (fields v)) ≡ needs k count v
  unfolding needs
  listed_needs t v = rw t

  pub listed_told : has_needs k count ≡ true → (text : List ℕ) (at end : ℕ) (r : Result (List ℕ) ℕ) → ListAt (λ v. eight (listed count (fields v))) text at end r
      → ListAt (needs k count) text at end r
  listed_told t text at end (Ok ds) e = sym (listed_needs t (part at end text)) ∙ e
  listed_told t text at end (Err e) u = unformed_also (λ v. eight (listed count (fields v))) (needs k count) (λ v. ap given (listed_needs t v)) text at end e u

  module _ (t : has_needs k count ≡ false) where
    pub dash_needs : (v : List ℕ) → same v dash ≡ true → needs k count v ≡ some (padded [])
    unfolding needs
    dash_needs v e = rw (t, e)

    no_dash : (v : List ℕ) → same v dash ≡ false → needs k count v ≡ none
    unfolding needs
    no_dash v e = rw (t, e)

    only_dash : (u : List ℕ) → given (needs k count u) ≡ true → u ≡ dash
    unfolding needs
    only_dash u g = by_test (same u dash) (λ e. same_is u dash e) (λ e. absurd (false≢true (rw (t, e) at g)))

    pub dash_lost : (text : List ℕ) (at end : ℕ) → Within text at end → (e : ℕ) → (same (part at end text) dash ≡ false) × (e ≡ at + agree (part at end text) dash)
        → Unformed (needs k count) text at end e
    dash_lost text at end w e h =
        only_unformed text at end w (needs k count) e (no_dash (part at end text) h.0) dash (given_some (needs k count dash) (padded []) (dash_needs dash (same_refl dash))) only_dash dash_free h.1

-- only rabin has needs, and row 4 allows it eight pairs
pub needs_few : (k : Kind) (count : ℕ) → has_needs k count ≡ true → count ≤ most_count k → (0 < count) × (count ≤ most_rabin)
needs_few Buchi count t l = absurd (false≢true t)
needs_few Streett count t l = absurd (false≢true t)
needs_few Rabin count t l = (ltb-true 0 count t, l)
