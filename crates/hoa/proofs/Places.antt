-- A refusal's place lies within its text: each token stands within it, and a refusal falls at a token. Assumes nothing.
use mathlib.Core.Path.{◌≡◌, subst}
use mathlib.Core.List.{List, [], ◌∷◌}
use Prim.Native.Nat.{ℕ, zero, suc, ◌≤◌}
use native.Mathlib.Omega.{arith}
use lib.ListN.{length, drop, length-drop}
use Rattle.job_text.specs.Job.{Outcome, job, fault}
use Rattle.hoa_tokens.specs.Token.{Token, int, word, header, str, aname, sign, body, end, abort, finish, bad}
use Rattle.hoa_tokens.specs.Stream.{Placed, first, unless_finished, some as up_to, tokens_at}
use Rattle.hoa_tokens.proofs.Next.{Stands, over, there, stands}
use Rattle.hoa_step.specs.Machine.{Step, go, done, wrong, End, done_at, wrong_at, cut, end_by, run}
use Rattle.hoa_value.specs.declared.Head.{Head}
use Rattle.hoa_value.specs.Heading.{opening, head_step}
use Rattle.hoa_head.specs.Headed.{head_end}
use Rattle.hoa_entry.specs.Rows.{Kept, no_rows, entries, row_step}
use Rattle.hoa.specs.Reading.{limits_of, rows_say, head_says, read_hoa}

-- ---- the tokens

-- all of them stand within n bytes
abbrev Within : ℕ → List Placed → Type 0
Within n [] = Unit {0}
Within n (p ∷ ps) = (p.place ≤ n) × Within n ps

unless_within : (n : ℕ) (t : Token) (ps : List Placed) → Within n ps → Within n (unless_finished t ps)
unless_within n finish ps w = tt
unless_within n (int i) ps w = w
unless_within n (word x) ps w = w
unless_within n (header h) ps w = w
unless_within n (str bs) ps w = w
unless_within n aname ps w = w
unless_within n (sign s) ps w = w
unless_within n body ps w = w
unless_within n end ps w = w
unless_within n abort ps w = w
unless_within n bad ps w = w

up_to_within : (k : ℕ) (text : List ℕ) (at : ℕ) → at ≤ length text → Within (length text) (up_to k text at)
unfolding up_to
up_to_within zero text at l = tt
up_to_within (suc k) text at l = by (first at (drop at text)) (stands at (drop at text)) (up_to_within k text)
  where
    by : (p : Placed) → Stands at (length (drop at text)) p → ((next : ℕ) → next ≤ length text → Within (length text) (up_to k text next))
        → Within (length text) (p ∷ unless_finished p.token (up_to k text p.next))
    by p (over e a b) later =
        (omega (arith, length-drop at text), unless_within (length text) p.token _ (later p.next (omega (arith, length-drop at text))))
    by p (there e a b c) later =
        (omega (arith, length-drop at text), unless_within (length text) p.token _ (later p.next (omega (arith, length-drop at text))))

-- ---- the machines

abbrev EndWithin : {D : Type 0} → ℕ → End D → Type 0
EndWithin n (done_at d ps) = Within n ps
EndWithin n (wrong_at number place) = place ≤ n
EndWithin n cut = Unit {0}

run_within : {S D : Type 0} (step : S → Token → Step S D) (n : ℕ) (ps : List Placed) → Within n ps → (s : S) → EndWithin n (run step ps s)
unfolding run
run_within step n [] w s = tt
run_within {S} {D} step n (p ∷ ps) w s = by (step s p.token) (run_within step n ps w.1)
  where
    by : (d : Step S D) → ((t : S) → EndWithin n (run step ps t)) → EndWithin n (end_by d p.place ps (λ t. run step ps t))
    by (go t) later = later t
    by (done d) later = w.1
    by (wrong k) later = w.0

-- ---- the text

abbrev FaultWithin : ℕ → Outcome → Type 0
FaultWithin n (job j) = Unit {0}
FaultWithin n (fault number place) = place ≤ n

rows_within : (n : ℕ) (h : Head) (e : End Kept) → EndWithin n e → FaultWithin n (rows_say h e)
rows_within n h (done_at k ps) w = tt
rows_within n h (wrong_at number place) w = w
rows_within n h cut w = omega arith

head_within : (n : ℕ) (e : End Head) → EndWithin n e → FaultWithin n (head_says e)
head_within n (done_at h ps) w =
    let begin = entries (no_rows (limits_of h).start) in
    rows_within n h (run (row_step (limits_of h)) ps begin) (run_within (row_step (limits_of h)) n ps w begin)
head_within n (wrong_at number place) w = w
head_within n cut w = omega arith

text_within : (text : List ℕ) → FaultWithin (length text) (read_hoa text)
unfolding read_hoa head_end tokens_at
text_within text =
    head_within (length text) (head_end text) (run_within head_step (length text) (tokens_at text 0) (up_to_within (suc (length text)) text 0 (omega arith)) opening)

-- a text that is refused is refused at a place of it, or at its end
pub fault_within : (text : List ℕ) (number place : ℕ) → read_hoa text ≡ fault number place → place ≤ length text
fault_within text number place e = subst (FaultWithin (length text)) e (text_within text)
