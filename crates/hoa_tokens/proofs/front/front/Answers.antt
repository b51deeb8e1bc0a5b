-- `front::front` meets its contract: the byte that stands there decides, in the rule's order. Assumes nothing.
use mathlib.Core.Path.{sym, ◌∙◌}
use lib.ListN.{get_or}
use Rattle.hoa_tokens.specs.Token.{sign_of}
use Rattle.hoa_tokens.proofs.Fronts.{front_out, front_number, front_named, front_string, front_alias, front_fixed, front_single}
use Rattle.hoa_tokens.proofs.Founds.{single_found, finish_found}
use native.Mathlib.Omega.{arith}
use Rattle.hoa_tokens.proofs.front.front.Goals as goal

pub returns-then-text-at : goal.returns-then-text-at
returns-then-text-at c =
    let a = c.args in
    rw (front_out a.text.now a.at c.if-text-at.true) (finish_found a.text.now a.at)

pub returns-then-is_digit : goal.returns-then-is_digit
returns-then-is_digit c =
    let a = c.args in
    rw (front_number a.text.now a.at c.if-text-at.false (sym c.is_digit.ensures ∙ c.if-is_digit.true)) c.number.ensures

pub returns-then-is_letter : goal.returns-then-is_letter
returns-then-is_letter c =
    let a = c.args in
    rw (front_named a.text.now a.at c.if-text-at.false (sym c.is_digit.ensures ∙ c.if-is_digit.false) (sym c.is_letter.ensures ∙ c.if-is_letter.true)) c.named.ensures

pub returns-in-34 : goal.returns-in-34
returns-in-34 c =
    let a = c.args in
    rw (front_string a.text.now a.at c.if-text-at.false (sym c.is_digit.ensures ∙ c.if-is_digit.false) (sym c.is_letter.ensures ∙ c.if-is_letter.false) c.in-34.is) c.string.ensures

pub returns-in-64 : goal.returns-in-64
returns-in-64 c =
    let a = c.args in
    rw (front_alias a.text.now a.at c.if-text-at.false (sym c.is_digit.ensures ∙ c.if-is_digit.false) (sym c.is_letter.ensures ∙ c.if-is_letter.false) (λ e. omega arith) c.in-64.is) c.alias.ensures

pub returns-in-45 : goal.returns-in-45
returns-in-45 c =
    let a = c.args in
    rw (front_fixed a.text.now a.at c.if-text-at.false (sym c.is_digit.ensures ∙ c.if-is_digit.false) (sym c.is_letter.ensures ∙ c.if-is_letter.false) (λ e. omega arith) (λ e. omega arith) c.in-45.is) c.fixed.ensures

pub returns-in_default-3 : goal.returns-in_default-3
returns-in_default-3 c =
    let a = c.args in
    rw (front_single a.text.now a.at c.if-text-at.false (sym c.is_digit.ensures ∙ c.if-is_digit.false) (sym c.is_letter.ensures ∙ c.if-is_letter.false) (λ e. omega arith) (λ e. omega arith) (λ e. omega arith))
    (single_found a.text.now a.at c.single.result (sign_of (get_or a.text.now a.at 0)) c.single.ensures)
