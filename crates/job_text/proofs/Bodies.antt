-- The edge lines, the end line and what follows it. Assumes nothing.
use mathlib.Core.Path.{◌≡◌, refl, ◌∙◌}
use mathlib.Core.List.{List, [], ◌∷◌, ◌++◌, map, append_assoc, append-nil, map-append}
use Prim.Native.Nat.{ℕ, suc, ◌+◌, ◌-◌, ◌≤◌, ◌<◌}
use native.Mathlib.Omega.{arith}
use lib.Dec.{eqb}
use lib.ListN.{length, set, drop, drop_of_length-le, length-append, length-map}
use lib.Seq.{drop-cons}
use Rattle.job_text.specs.declared.line.Fault.{Fault}
use Rattle.job_text.specs.declared.line.LineStart.{LineStart}
use Rattle.job_text.specs.Text.{newline, Lines, done, broken, line, longer, lines}
use Rattle.job_text.specs.Value.{Edge, edge, end, pad_to}
use Rattle.job_text.specs.Job.{absent, asked, unlimited, edge=, end=, most_job_edges, Found, found, refused, go_on, next, over, edge_lines, end_lines}
use Rattle.job_text.specs.Given.{fault_at, Blamed, from_line, SaysTo}
use Rattle.job_text.specs.Reading.{Held, Blank, EdgesTold, Heard}
use Rattle.job_text.proofs.Pad.{pad_more}
use Rattle.job_text.proofs.Text.{by_test}
use Rattle.job_text.proofs.Heads.{blamed_on}

-- ---- the end

over_longer : (x : ℕ) (ls : Lines) (p : ℕ) → over p (longer x ls) ≡ refused absent p
over_longer x done p = refl
over_longer x broken p = refl
over_longer x (line l ls) p = refl

over_some : (x : ℕ) (xs : List ℕ) (p : ℕ) → over p (lines (x ∷ xs)) ≡ refused absent p
unfolding lines
over_some x xs p = by_test (eqb x newline) (λ t. rw t) (λ t. rw t (over_longer x (lines xs) p))

module _ (text : List ℕ) (at p : ℕ) where
  -- a byte follows the end line
  pub over_more : at < length text → over p (lines (drop at text)) ≡ refused absent p
  over_more l = rw (drop-cons text at 0 l) (over_some _ (drop (suc at) text) p)

  pub over_done : length text ≤ at → over p (lines (drop at text)) ≡ found tt p done
  unfolding lines
  over_done l = rw (drop_of_length-le text l)

module _ (text : List ℕ) (start : LineStart) where
  module _ (behind : LineStart) (e : SaysTo text (from_line text start (next (asked end= end unlimited))) tt behind) where
    -- a byte follows the end line
    pub end_followed : behind.at < length text → Blamed text (from_line text start end_lines) (fault_at 21 behind.line 1)
    end_followed l =
        record {
          why = absent;
          place = behind.line;
          is = rw (e, over_more text behind.at behind.line l);
          worded = record { number = refl; line = refl; column = refl; short = omega arith };
        }

    pub end_said : length text ≤ behind.at → Heard (from_line text start end_lines)
    end_said l = record { what = tt; place = behind.line; rest = done; is = rw (e, over_done text behind.at behind.line l) }

-- ---- the edges, one after the other

-- es, then what is said
abbrev pub front : List Edge → Found (List Edge) → Found (List Edge)
front es (found fs p ls) = found (es ++ fs) p ls
front es (refused x p) = refused x p

-- after i edges: they stand in the tables, and the rest of the lines decides
pub record SoFar (text : List ℕ) (start : LineStart) (count : ℕ) (from to marks : List ℕ) (here : LineStart) (i : ℕ) : Type 0 where
  pub given : List Edge
  pub many : length given ≡ i
  pub held : Held given from to marks
  pub rest : from_line text start (edge_lines count) ≡ front given (from_line text here (edge_lines (count - i)))
  pub line : here.line ≡ start.line + i

front_none : (f : Found (List Edge)) → f ≡ front [] f
front_none (found es p ls) = refl
front_none (refused x p) = refl

pub so_far_none : (text : List ℕ) (start : LineStart) (count : ℕ) (from to marks : List ℕ) → Blank from to marks
    → SoFar text start count from to marks start 0
so_far_none text start count from to marks b =
    let c : count - 0 ≡ count = omega arith in
    record {
      given = [];
      many = refl;
      held = record { froms = b.from_blank; tos = b.to_blank; sets = b.marks_blank };
      rest = rw c (front_none (from_line text start (edge_lines count)));
      line = omega arith;
    }

front_more : (es : List Edge) (e : Edge) (f : Found (List Edge)) → front es (go_on f (λ fs p ls. found (e ∷ fs) p ls)) ≡ front (es ++ (e ∷ [])) f
front_more es e (found fs p ls) = rw append_assoc
front_more es e (refused x p) = refl

-- one cell more of a table
pub column_more : (part : Edge → ℕ) (es : List Edge) (e : Edge) (cells : List ℕ) → length es < most_job_edges → cells ≡ pad_to most_job_edges (map part es)
    → set cells (length es) (part e) ≡ pad_to most_job_edges (map part (es ++ (e ∷ [])))
column_more part es e cells l h =
    rw (h, map-append part es (e ∷ []), ← length-map es part) (pad_more most_job_edges (map part es) (part e) (omega (arith, length-map es part)))

module _ (text : List ℕ) (start : LineStart) (count : ℕ) (from to marks : List ℕ) (here : LineStart) (i : ℕ) (s : SoFar text start count from to marks here i) where
  pub edge_lost : (x : Fault) → i < count → Blamed text (from_line text here (next (asked edge= edge unlimited))) x → Blamed text (from_line text start (edge_lines count)) x
  edge_lost x l b =
      let k : count - i ≡ suc (count - (i + 1)) = omega arith in
      blamed_on text _ (from_line text start (edge_lines count)) x b (λ w p e. rw (s.rest, k, e))

  pub edge_goes : (f : Edge) (behind : LineStart) → i < count → count ≤ most_job_edges → SaysTo text (from_line text here (next (asked edge= edge unlimited))) f behind
      → behind.line ≡ here.line + 1 → SoFar text start count (set from i f.from) (set to i f.to) (set marks i f.marks) behind (i + 1)
  edge_goes f behind l m e p =
      let k : count - i ≡ suc (count - (i + 1)) = omega arith in
      let few : length s.given < most_job_edges = omega (arith, s.many) in
      record {
        given = s.given ++ (f ∷ []);
        many = omega (arith, length-append s.given (f ∷ []), s.many);
        held =
            rw (← s.many)
            (record {
              froms = column_more (λ d. d.from) s.given f from few s.held.froms;
              tos = column_more (λ d. d.to) s.given f to few s.held.tos;
              sets = column_more (λ d. d.marks) s.given f marks few s.held.sets;
            });
        rest = rw (s.rest, k, e) (front_more s.given f (from_line text behind (edge_lines (count - (i + 1)))));
        line = omega (arith, s.line);
      }

  -- all of them are read
  pub edges_done : i ≡ count → start.line ≤ 8 → count ≤ most_job_edges → EdgesTold text (from_line text start (edge_lines count)) count here from to marks
  edges_done h early m =
      let k : count - i ≡ 0 = omega arith in
      record { given = s.given; many = s.many ∙ h; read = rw (s.rest, k, append-nil); held = s.held; early = omega (arith, s.line) }
