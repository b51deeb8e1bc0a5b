-- The machine's steps at the token that is found; sigs and labels inside the rows. Assumes nothing.
use mathlib.Core.Path.{◌≡◌, refl, sym, ap, ◌∙◌}
use mathlib.Core.Bool.{true, false, false≢true}
use mathlib.Core.List.{List, [], ◌∷◌}
use Prim.Native.Nat.{ℕ, ◌-◌}
use native.Mathlib.Omega.{arith}
use Rattle.hoa_tokens.specs.declared.Kind.{Kind}
use Rattle.hoa_tokens.specs.declared.Kind.TheVariants as kind_is
use Rattle.hoa_tokens.specs.declared.Found.{Found}
use Rattle.hoa_tokens.specs.Token.{Token}
use Rattle.hoa_tokens.specs.Stream.{Placed, placed, tokens_at, token_of, unless_finished, TokenAt}
use Rattle.hoa_tokens.proofs.Next.{tokens_next, token_takes, unless_kind}
use Rattle.hoa_step.specs.Machine.{Step, End, go, done, wrong, done_at, wrong_at, cut, end_by, run}
use Rattle.hoa_step.specs.Wanted.{Next}
use Rattle.hoa_label.specs.Labels as label
use Rattle.hoa_label.specs.Labels.{LabelState, LabelStep, LabelEnd, label_step, label_run, label_next}
use Rattle.hoa_entry.specs.declared.Limits.{Limits}
use Rattle.hoa_entry.specs.declared.Entry.{Entry}
use Rattle.hoa_entry.specs.Sig.{sig_step}
use Rattle.hoa_entry.specs.Rows as spec
use Rattle.hoa_entry.specs.Rows.{Rows, entries, row_marks, edge_marks, in_label}
use Rattle.hoa_entry.specs.Rows.{with_sig, with_edge, on_row_marks, on_edge_marks, on_label, shut_label, entry_of, row_step}
use Rattle.hoa_entry.specs.inner.Reads.{EntryHere, is_fault}
use Rattle.hoa_entry.proofs.Signs.{AllTake, is_shut, shut_sign}

-- ---- the token that is found

-- a token but the text's end, and the tokens behind it
pub moved : (text : List ℕ) (at : ℕ) (f : Found) → TokenAt text at f → (f.kind ≡ kind_is.Finish → ⊥)
    → Next text at f.first f.next (token_of text f.first f.next f.kind)
moved text at f h n =
    let m = token_takes text at f h n in
    record {
      is =
          tokens_next text at f h
          ∙ ap (λ (ps : List Placed). placed f.first f.next (token_of text f.first f.next f.kind) ∷ ps)
          (unless_kind text f.first f.next f.kind (tokens_at text f.next) n);
      behind_at = m.behind_at;
      takes = m.takes;
      within = m.within;
    }

no_end : (text : List ℕ) (a b : ℕ) (k : Kind) → is_fault (entry_of (token_of text a b k)) ≡ false → k ≡ kind_is.Finish → ⊥
unfolding entry_of
no_end text a b k n e = false≢true (sym (rw e at n))

-- what stands at a place, by the token that is found there
pub entry_here : (text : List ℕ) (at : ℕ) (f : Found) (e : Entry) → TokenAt text at f → e ≡ entry_of (token_of text f.first f.next f.kind)
    → EntryHere text at (record { entry = e; place = f.first; next = f.next })
entry_here text at f e h q =
    record {
      token = token_of text f.first f.next f.kind;
      rest = unless_finished (token_of text f.first f.next f.kind) (tokens_at text f.next);
      is = tokens_next text at f h;
      entry = sym q;
      behind =
          λ n.
          let no = no_end text f.first f.next f.kind (rw q at n) in
          let m = token_takes text at f h no in
          record {
            is = unless_kind text f.first f.next f.kind (tokens_at text f.next) no;
            onward = record { behind = omega (arith, m.behind_at, m.takes); within = m.within };
          };
    }

-- ---- one step

module _ {S D : Type 0} (step : S → Token → Step S D) (s : S) {ps rest : List Placed} {p q : ℕ} {t : Token} (e : ps ≡ placed p q t ∷ rest) where
  pub step_goes : (s' : S) → step s t ≡ go s' → run step ps s ≡ run step rest s'
  unfolding run
  step_goes s' h = rw (e, h)

  pub step_ends : (d : D) → step s t ≡ done d → run step ps s ≡ done_at d rest
  unfolding run
  step_ends d h = rw (e, h)

  pub step_faults : (n : ℕ) → step s t ≡ wrong n → run step ps s ≡ wrong_at n p
  unfolding run
  step_faults n h = rw (e, h)

  pub step_same : (s' : S) → step s t ≡ step s' t → run step ps s ≡ run step ps s'
  unfolding run
  step_same s' h = rw (e, h)

-- ---- a sig inside the rows

-- where the sig ends the rows go on
abbrev pub after_sig : Limits → (ℕ → Rows) → End ℕ → End spec.Kept
after_sig l f (done_at m ps) = run (row_step l) ps (entries (f m))
after_sig l f (wrong_at n p) = wrong_at n p
after_sig l f cut = cut

module _ (l : Limits) (b : Rows) where
  pub row_sig_lem : (ps : List Placed) (m : ℕ) → run (row_step l) ps (row_marks m b) ≡ after_sig l (λ m'. with_sig m' b) (run (sig_step l.marks) ps m)
  unfolding run row_step
  row_sig_lem [] m = refl
  row_sig_lem (p ∷ ps) m = by (sig_step l.marks m p.token) (λ m'. row_sig_lem ps m')
    where
      by : (s : Step ℕ ℕ)
          → ((m' : ℕ) → run (row_step l) ps (row_marks m' b) ≡ after_sig l (λ n. with_sig n b) (run (sig_step l.marks) ps m'))
          → end_by (on_row_marks b s) p.place ps (λ t. run (row_step l) ps t)
          ≡ after_sig l (λ m'. with_sig m' b) (end_by s p.place ps (λ t. run (sig_step l.marks) ps t))
      by (go m') later = later m'
      by (done m') later = refl
      by (wrong n) later = refl

  pub edge_sig : (x to : ℕ) (ps : List Placed) (m : ℕ)
      → run (row_step l) ps (edge_marks m x to b) ≡ after_sig l (λ m'. with_edge x to m' b) (run (sig_step l.marks) ps m)
  unfolding run row_step
  edge_sig x to [] m = refl
  edge_sig x to (p ∷ ps) m = by (sig_step l.marks m p.token) (λ m'. edge_sig x to ps m')
    where
      by : (s : Step ℕ ℕ)
          → ((m' : ℕ) → run (row_step l) ps (edge_marks m' x to b) ≡ after_sig l (λ n. with_edge x to n b) (run (sig_step l.marks) ps m'))
          → end_by (on_edge_marks x to b s) p.place ps (λ t. run (row_step l) ps t)
          ≡ after_sig l (λ m'. with_edge x to m' b) (end_by s p.place ps (λ t. run (sig_step l.marks) ps t))
      by (go m') later = later m'
      by (done m') later = refl
      by (wrong n) later = refl

-- ---- a label inside the rows

-- where the label is shut at a place the edge goes on, unless it finds no room
abbrev pub after_label : Limits → Rows → LabelEnd → ℕ → End spec.Kept
after_label l b (label.shut_at x ps) place = end_by (shut_label x b) place ps (λ t. run (row_step l) ps t)
after_label l b (label.wrong_at n p) place = wrong_at n p
after_label l b label.cut place = cut

module _ (l : Limits) (b : Rows) where
  abbrev label_gives : List Placed → LabelState → End spec.Kept
  label_gives ps s = after_label l b (label_run l.props s ps) (label_next l.props s ps - 1)

  pub in_label_lem : (ps : List Placed) → AllTake ps → (s : LabelState) → run (row_step l) ps (in_label s b) ≡ label_gives ps s
  unfolding run row_step label_run label_next
  in_label_lem [] h s = refl
  in_label_lem (p ∷ ps) h s =
      by (label_step l.props s p.token) (λ e. h.0 (shut_sign l.props s p.token e)) (in_label_lem ps h.1)
    where
      by : (t : LabelStep) → (is_shut t ≡ true → p.place ≡ p.next - 1)
          → ((s' : LabelState) → run (row_step l) ps (in_label s' b) ≡ label_gives ps s')
          → end_by (on_label b t) p.place ps (λ u. run (row_step l) ps u)
          ≡ after_label l b (label.end_by t p.place ps (λ u. label_run l.props u ps))
          (label.next_by t p.next (λ u. label_next l.props u ps) - 1)
      by (label.go s') place later = later s'
      by (label.shut x) place later = ap (λ (n : ℕ). end_by (shut_label x b) n ps (λ u. run (row_step l) ps u)) (place refl)
      by (label.wrong n) place later = refl
