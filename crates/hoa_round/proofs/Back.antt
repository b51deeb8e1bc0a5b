-- What is written is a text of the subset, within the limits, that says the table and the condition (`written_as`). Assumes nothing.
use mathlib.Core.Bool.{false}
use mathlib.Core.List.{List, [], ◌∷◌, map}
use mathlib.Core.Path.{◌≡◌, refl, sym, ap, ◌∙◌}
use Prim.Native.Nat.{ℕ, zero, suc, ◌^◌, ◌≤◌, ◌<◌, zero-le}
use native.Mathlib.Nat.{lt_of_lt_of_le}
use native.Mathlib.Omega.{arith}
use lib.ListN.{length, get_or}
use lib.Pow.{pow_mono}
use Rattle.marks.specs.Mark.{width}
use Rattle.table.specs.declared.Acceptance.{Acceptance}
use Rattle.table.specs.declared.Acceptance.TheVariants as acceptance
use Rattle.table.specs.Table.{lent}
use Rattle.table.specs.Refusal.{used, wrong_condition}
use Rattle.table.proofs.Sound.{Fit, used_few, rabin_few}
use Rattle.hoa_tokens.specs.Token.{Token}
use Rattle.hoa_tokens.specs.Stream.{Placed, tokens_at}
use Rattle.hoa_label.specs.Label.{label_depth, most_levels}
use Rattle.hoa_standard.specs.Standard.{most_pairs}
use Rattle.hoa_written.specs.Written.{hoa_text}
use Rattle.hoa_written.specs.Writing.{most_written, most_written_edges}
use Rattle.hoa_written.proofs.Tokens.{written_tokens_lem}
use Rattle.hoa_written.proofs.Back.{by_state}
use Rattle.hoa_grammar.specs.Doc.{Conj, Item}
use Rattle.hoa_grammar.specs.Subset.{Each, each_none, each_more, differ_none, given, ItemFits, Once, Formula, StandardAs, pairs_in, Says, Limited}
use Rattle.hoa_grammar.specs.Walk.{tokens_of}
use Rattle.hoa_grammar.specs.Exact.{ReadAs}
use Rattle.hoa_round.specs.Trees.{std_of}
use Rattle.hoa_round.specs.Back.{comes_back, needs_for, edge_of, back_of}
use Rattle.hoa_round.proofs.Trees.{tree_marks}
use Rattle.hoa_round.proofs.Means.{tree_means}
use Rattle.hoa_round.proofs.Conds.{cond_of, cond_tree}
use Rattle.hoa_round.proofs.Docs.{truth, tree_of, row_of, items_of, doc_of, doc_is}
use Rattle.hoa_round.proofs.Lists.{each_up, each_leaving, length_up, rows_have, rows_sorted}
use Rattle.hoa_round.proofs.Says.{all_say, numbers_differ}

-- the tokens without their places
tokens_are : (ps : List Placed) → tokens_of ps ≡ map (λ (p : Placed). p.token) ps
unfolding tokens_of
tokens_are [] = refl
tokens_are (p ∷ ps) = ap (λ (ts : List Token). p.token ∷ ts) (tokens_are ps)

-- no more than 8 pairs
few_pairs : (c : Acceptance) (needs : List ℕ) → wrong_condition c needs ≡ false → pairs_in (comes_back c) ≤ most_pairs
few_pairs (acceptance.Buchi k) needs h = zero-le
few_pairs (acceptance.Streett zero) needs h = zero-le
few_pairs (acceptance.Streett (suc p)) needs h = zero-le
few_pairs (acceptance.Rabin p) needs h = rabin_few p needs h

-- `t` has no brackets
truth_flat : label_depth truth ≤ most_levels
unfolding label_depth
truth_flat = zero-le

-- the items fit
items_fit : (n start : ℕ) (c : Acceptance) (needs : List ℕ) → Each ItemFits (items_of n start c needs)
items_fit n start c needs =
    let names : ItemFits (Item.props 0 []) = (refl, differ_none) in
    each_more {x = Item.states n} tt (each_more {x = Item.start (Conj.one start)} tt (each_more names (each_more {x = Item.acceptance (used c needs) (cond_of c needs)} tt each_none)))

-- each comes once
items_once : (n start : ℕ) (c : Acceptance) (needs : List ℕ) → Once (items_of n start c needs)
unfolding given
items_once n start c needs =
    record { states_once = omega arith; props_once = omega arith; acc_name_once = zero-le; tool_once = zero-le; name_once = zero-le }

-- the number of marks, and the formula
abbrev formula_of : Acceptance → List ℕ → Formula
formula_of c needs = record { marks = used c needs; cond = cond_of c needs }

module _ (n start : ℕ) (from to marks : List ℕ) (c : Acceptance) (needs : List ℕ) (eight : length needs ≡ most_pairs)
    (fit : Fit (lent n start from to marks) c needs) where
  -- it is a standard formula that means the condition
  formula_means : StandardAs (formula_of c needs) (comes_back c) (needs_for c needs)
  formula_means =
      record { std = std_of c needs; of_marks = tree_marks c needs; text = cond_tree c needs; means = tree_means c needs eight fit.condition }

  -- an edge's marks are a set
  small : (e : ℕ) → e < length from → get_or marks e 0 < 2 ^ width
  small e l = lt_of_lt_of_le (fit.marks_below e l) (pow_mono (used_few c needs fit.condition))

  -- the text says the table and the condition
  pub doc_says : Says (doc_of n start from to marks c needs) (back_of n start from to marks c needs)
  unfolding given
  doc_says =
      let table = fit.proper in
      record {
        version = refl;
        items_fit = items_fit n start c needs;
        once = items_once n start c needs;
        starts = refl;
        formula = formula_of c needs;
        accepts = refl;
        means = formula_means;
        states = refl;
        some_state = table.some;
        start_below = table.start_below;
        row_each = length_up (row_of from to marks) n;
        rows_differ = numbers_differ from to marks n;
        all = by_state (edge_of from to marks) from n;
        rows_say_lem = all_say n (used c needs) from to marks table.to_below fit.marks_below small n (omega arith);
        edges = rows_sorted from to marks n table.sorted table.from_below;
      }

  -- it is within the limits
  pub doc_limited : n ≤ most_written → length from ≤ most_written_edges → Limited (doc_of n start from to marks c needs) (back_of n start from to marks c needs) doc_says
  unfolding given doc_says
  doc_limited l m =
      let table = fit.proper in
      record {
        few_states = l;
        few_props = zero-le;
        few_marks = used_few c needs fit.condition;
        few_pairs = few_pairs c needs fit.condition;
        few_edges =
            omega (arith, m, length_up (edge_of from to marks) (length from), ap length (rows_have from to marks n table.sorted table.from_below));
        flat = each_up (row_of from to marks) n (λ q h. each_leaving (tree_of to marks) from q (length from) (λ e. truth_flat));
      }

  -- the bytes that are written are a text of the subset that says the table and the condition
  pub written_as : n ≤ most_written → length from ≤ most_written_edges → ReadAs (hoa_text (lent n start from to marks) c needs) (back_of n start from to marks c needs)
  written_as l m =
      record {
        doc = doc_of n start from to marks c needs;
        tokens =
            tokens_are (tokens_at (hoa_text (lent n start from to marks) c needs) 0)
            ∙ written_tokens_lem n start from to marks c needs fit l
            ∙ sym (doc_is from to marks n start c needs);
        says = doc_says;
        limited = doc_limited l m;
      }
