-- Which tokens belong to what stands before them, and that the others do what they do where an item may begin. Assumes nothing.
use mathlib.Core.Path.{◌≡◌, refl}
use mathlib.Core.Bool.{Bool, true, false}
use mathlib.Core.List.{List}
use Prim.Native.Nat.{ℕ}
use Rattle.hoa_tokens.specs.Token.{Token, int, word, header, str, aname, sign, body, end, abort, finish, bad}
use Rattle.hoa_step.specs.Machine.{go, wrong}
use Rattle.hoa_value.specs.declared.Head.{Head}
use Rattle.hoa_value.specs.declared.Piece.{Piece}
use Rattle.hoa_value.specs.declared.Piece.TheVariants as piece_is
use Rattle.hoa_value.specs.Heading.{items, hints, piece_of, on_piece, on_start_more, on_tool_more, on_hints, on_acc_name, on_names, behind_names}
use Rattle.hoa_value.specs.Heading.{unfinished}
use Rattle.hoa_value.specs.inner.Pieces.{misplaced_number, is_join, is_text, is_word, is_hint, known}

-- ---- what belongs is admitted

pub word_known : (p : Piece) → is_word p ≡ true → known p ≡ true
word_known piece_is.Join e = refl
word_known (piece_is.Item k) e = refl
word_known piece_is.Body e = refl
word_known piece_is.Word e = refl
word_known piece_is.Int e = refl
word_known piece_is.Text e = refl
word_known (piece_is.Wrong n) e = e

pub hint_known : (ints texts : Bool) (p : Piece) → is_hint ints texts p ≡ true → known p ≡ true
hint_known ints texts piece_is.Join e = refl
hint_known ints texts (piece_is.Item k) e = refl
hint_known ints texts piece_is.Body e = refl
hint_known ints texts piece_is.Word e = refl
hint_known ints texts piece_is.Int e = refl
hint_known ints texts piece_is.Text e = refl
hint_known ints texts (piece_is.Wrong n) e = e

pub text_piece : (p : Piece) → is_text p ≡ true → p ≡ piece_is.Text
text_piece piece_is.Text e = refl
text_piece (piece_is.Item k) e = cc
text_piece piece_is.Body e = cc
text_piece piece_is.Word e = cc
text_piece piece_is.Int e = cc
text_piece piece_is.Join e = cc
text_piece (piece_is.Wrong n) e = cc

-- ---- behind the INT of Start:

pub join_is : (h : Head) (p : Piece) → is_join p ≡ true → on_start_more h p ≡ wrong 41
join_is h piece_is.Join e = refl
join_is h (piece_is.Item k) e = cc
join_is h piece_is.Body e = cc
join_is h piece_is.Word e = cc
join_is h piece_is.Int e = cc
join_is h piece_is.Text e = cc
join_is h (piece_is.Wrong n) e = cc

pub join_not : (h : Head) (p : Piece) → is_join p ≡ false → on_start_more h p ≡ on_piece h p
join_not h piece_is.Join e = cc
join_not h (piece_is.Item k) e = refl
join_not h piece_is.Body e = refl
join_not h piece_is.Word e = refl
join_not h piece_is.Int e = refl
join_not h piece_is.Text e = refl
join_not h (piece_is.Wrong n) e = refl

-- ---- behind the first STRING of tool:

pub tool_is : (h : Head) (p : Piece) → is_text p ≡ true → on_tool_more h p ≡ go (items h)
tool_is h piece_is.Text e = refl
tool_is h (piece_is.Item k) e = cc
tool_is h piece_is.Body e = cc
tool_is h piece_is.Word e = cc
tool_is h piece_is.Int e = cc
tool_is h piece_is.Join e = cc
tool_is h (piece_is.Wrong n) e = cc

pub tool_not : (h : Head) (p : Piece) → is_text p ≡ false → on_tool_more h p ≡ on_piece h p
tool_not h piece_is.Text e = cc
tool_not h (piece_is.Item k) e = refl
tool_not h piece_is.Body e = refl
tool_not h piece_is.Word e = refl
tool_not h piece_is.Int e = refl
tool_not h piece_is.Join e = refl
tool_not h (piece_is.Wrong n) e = refl

-- ---- where words are passed over

pub hint_is : (ints texts : Bool) (h : Head) (p : Piece) → is_hint ints texts p ≡ true → on_hints ints texts h p ≡ go (hints ints texts h)
hint_is ints texts h piece_is.Word e = refl
hint_is ints texts h piece_is.Int e = rw e
hint_is ints texts h piece_is.Text e = rw e
hint_is ints texts h (piece_is.Item k) e = cc
hint_is ints texts h piece_is.Body e = cc
hint_is ints texts h piece_is.Join e = cc
hint_is ints texts h (piece_is.Wrong n) e = cc

pub hint_not : (ints texts : Bool) (h : Head) (p : Piece) → is_hint ints texts p ≡ false → on_hints ints texts h p ≡ on_piece h p
hint_not ints texts h piece_is.Word e = cc
hint_not ints texts h piece_is.Int e = rw e
hint_not ints texts h piece_is.Text e = rw e
hint_not ints texts h (piece_is.Item k) e = refl
hint_not ints texts h piece_is.Body e = refl
hint_not ints texts h piece_is.Join e = refl
hint_not ints texts h (piece_is.Wrong n) e = refl

-- ---- the WORD of acc-name:

pub word_is : (h : Head) (p : Piece) → is_word p ≡ true → on_acc_name h p ≡ go (hints true false h)
word_is h piece_is.Word e = refl
word_is h (piece_is.Item k) e = cc
word_is h piece_is.Body e = cc
word_is h piece_is.Int e = cc
word_is h piece_is.Text e = cc
word_is h piece_is.Join e = cc
word_is h (piece_is.Wrong n) e = cc

pub word_not : (h : Head) (p : Piece) → is_word p ≡ false → on_acc_name h p ≡ wrong (misplaced_number 40 p)
word_not h piece_is.Word e = cc
word_not h (piece_is.Item k) e = refl
word_not h piece_is.Body e = refl
word_not h piece_is.Int e = refl
word_not h piece_is.Text e = refl
word_not h piece_is.Join e = refl
word_not h (piece_is.Wrong n) e = refl

-- ---- behind names or a formula that are too few

pub unfinished_is : (p : Piece) → unfinished p ≡ wrong (misplaced_number 41 p)
unfinished_is piece_is.Word = refl
unfinished_is (piece_is.Item k) = refl
unfinished_is piece_is.Body = refl
unfinished_is piece_is.Int = refl
unfinished_is piece_is.Text = refl
unfinished_is piece_is.Join = refl
unfinished_is (piece_is.Wrong n) = refl

-- ---- where a name may stand

pub name_not : (a : ℕ) (ns : List (List ℕ)) (h : Head) (t : Token) → is_text (piece_of t) ≡ false → on_names a ns h t ≡ behind_names a ns h (piece_of t)
unfolding piece_of on_names
name_not a ns h (str bs) e = cc
name_not a ns h (int i) e = refl
name_not a ns h (word w) e = refl
name_not a ns h (header k) e = refl
name_not a ns h aname e = refl
name_not a ns h (sign s) e = refl
name_not a ns h body e = refl
name_not a ns h end e = refl
name_not a ns h abort e = refl
name_not a ns h finish e = refl
name_not a ns h bad e = refl
