-- Which edges and rows fit behind the rows that were read, and to what they lead: the subset's conditions in the order of the text, the limits set aside.
-- Assumes nothing.
use mathlib.Core.Bool.{false}
use mathlib.Core.List.{List, [], ◌∷◌}
use mathlib.Core.Option.{Option, some, none}
use mathlib.Core.Path.{◌≡◌, sym, ap}
use Prim.Native.Nat.{ℕ, ◌≤◌, ◌<◌}
use lib.ListN.{length}
use Rattle.job_text.specs.Job.{most_job_states, most_job_edges}
use Rattle.hoa_label.specs.Label.{Label, label_fits, label_depth, most_levels}
use Rattle.hoa_label.proofs.Sets.{label_set}
use Rattle.hoa_step.specs.Given.{not_below}
use Rattle.hoa_entry.specs.declared.Limits.{Limits}
use Rattle.hoa_entry.specs.Rows.{Rows, with_row, with_sig, with_edge, came, full_rows}
use Rattle.hoa_grammar.specs.Doc.{Conj, EdgeTree, Row}
use Rattle.hoa_grammar.specs.Subset.{SigFits, sig_marks}

-- the edge with a label, one target and perhaps a sig
abbrev pub edge_tree : Label → ℕ → Option (List ℕ) → EdgeTree
edge_tree lab to sig = record { label = some lab; to = Conj.one to; sig = sig }

module _ (l : Limits) where
  -- the edge fits, and is kept or not
  pub data TakesEdge (b : Rows) : EdgeTree → Rows → Type 0 where
    takes_edge : (lab : Label) (to : ℕ) (sig : Option (List ℕ)) → label_fits lab l.props → not_below to l.states ≡ false → SigFits l.marks sig
        → TakesEdge b (edge_tree lab to sig) (with_edge (label_set lab) to (sig_marks b.sig sig) b)

  -- the limits that an edge is held to
  unfoldable pub EdgeLimit : {b b' : Rows} {e : EdgeTree} → TakesEdge b e b' → Type 0
  EdgeLimit {b = b} (takes_edge lab to sig _ _ _) = (label_depth lab ≤ most_levels) × ((0 < label_set lab → length b.edges < most_job_edges) × (to < most_job_states))

  pub data TakesEdges : Rows → List EdgeTree → Rows → Type 0 where
    takes_no_edge : {b b' : Rows} → b ≡ b' → TakesEdges b [] b'
    takes_edge_more : {b b' b'' : Rows} {e : EdgeTree} {es : List EdgeTree} → TakesEdge b e b' → TakesEdges b' es b'' → TakesEdges b (e ∷ es) b''

  unfoldable pub EdgesLimit : {b b' : Rows} {es : List EdgeTree} → TakesEdges b es b' → Type 0
  EdgesLimit (takes_no_edge e) = Unit {0}
  EdgesLimit (takes_edge_more f fs) = EdgeLimit f × EdgesLimit fs

  -- the row fits behind the rows b, and leads to b'
  pub record TakesRow (b : Rows) (r : Row) (b' : Rows) : Type 0 where
    pub room : full_rows l b ≡ false
    pub no_label : r.label ≡ none
    pub below : not_below r.number l.states ≡ false
    pub new : came r.number b.seen ≡ false
    pub sig_fits : SigFits l.marks r.sig
    pub edges_fit : TakesEdges (with_sig (sig_marks 0 r.sig) (with_row r.number b)) r.edges b'

  -- the limits that a row is held to
  pub record RowLimit {b b' : Rows} {r : Row} (f : TakesRow b r b') : Type 0 where
    pub few : r.number < most_job_states
    pub edges_few : EdgesLimit f.edges_fit

  pub data TakesRows : Rows → List Row → Rows → Type 0 where
    takes_no_row : {b b' : Rows} → b ≡ b' → TakesRows b [] b'
    takes_row_more : {b b' b'' : Rows} {r : Row} {rs : List Row} → TakesRow b r b' → TakesRows b' rs b'' → TakesRows b (r ∷ rs) b''

  unfoldable pub RowsLimit : {b b' : Rows} {rs : List Row} → TakesRows b rs b' → Type 0
  RowsLimit (takes_no_row e) = Unit {0}
  RowsLimit (takes_row_more f fs) = RowLimit f × RowsLimit fs

  -- edges leave the rows' numbers as they are
  pub edges_seen : (b b' : Rows) (es : List EdgeTree) → TakesEdges b es b' → b'.seen ≡ b.seen
  edges_seen b b' _ (takes_no_edge e) = ap (λ (x : Rows). x.seen) (sym e)
  edges_seen b b' _ (takes_edge_more (takes_edge lab to sig _ _ _) fs) = edges_seen _ b' _ fs
