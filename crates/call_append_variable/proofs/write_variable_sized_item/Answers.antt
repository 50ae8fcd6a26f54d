-- `write_variable_sized_item` meets its contract: a refusal leaves all as it is, else the plan's units are done up to the stop.
use mathlib.Core.Path.{◌≡◌, ap₂, ◌∙◌}
use mathlib.Core.Bool.{true, false}
use mathlib.Core.List.{List}
use Prim.Native.Nat.{ℕ}
use borrow.Author.Rules.{rules}
use lib.ListN.{take}
use Rattle.std.specs.Prelude.{is_ok}
use Rattle.page.specs.Record.{with_item}
use Rattle.page.specs.Writing.{stops}
use Rattle.page.proofs.Checks.{call_refused, call_ended}
use Rattle.sector.proofs.Laws.{accepted_done, accepted_refused}
use Rattle.sector.specs.Answers.{Check, accepted}
use Rattle.call_append.specs.Append.{variable_checks, variable_plan, with_variable, append_variable, append_variable_image}
use Rattle.call_append_variable.proofs.write_variable_sized_item.Goals as goal

pub returns-in_err-variable_refusal : goal.returns-in_err-variable_refusal
unfolding append_variable append_variable_image
returns-in_err-variable_refusal c =
    let z = c.args in
    let checks : List Check = variable_checks z.image.now z.page.now z.item z.payload.now in
    let refused : is_ok c.variable_refusal.result ≡ false = search rules in
    let same : c.from_residual.result ≡ c.variable_refusal.result = search rules in
    let plan = variable_plan z.page.now z.item z.payload.now in
    let all = call_refused checks z.page.now (with_variable z.page.now z.item z.payload.now) z.image.now (stops z.stop plan) (take z.stop plan)
    (same ∙ c.variable_refusal.ensures.answer) (accepted_refused checks c.variable_refusal.ensures.answer refused) in
    record { answer = all.0; page = all.1; image = all.2 }

pub returns : goal.returns
unfolding append_variable append_variable_image
returns c =
    let z = c.args in
    let checks : List Check = variable_checks z.image.now z.page.now z.item z.payload.now in
    let done : is_ok c.variable_refusal.result ≡ true = search rules in
    let accepts : accepted checks ≡ true = accepted_done checks c.variable_refusal.ensures.answer done in
    let made : c.with_item-new.result ≡ with_variable z.page.now z.item z.payload.now = c.with_item-new.ensures
    ∙ ap₂ (λ (span hash : ℕ). with_item z.page.now span z.item.namespace hash) c.span_for.ensures c.calculate_hash-hash.ensures in
    let all = call_ended checks z.page.now (with_variable z.page.now z.item z.payload.now) z.image.now z.stop (variable_plan z.page.now z.item z.payload.now) accepts
    c.write_variable-total.ensures.total made c.write_variable-total.ensures.image c.ended.ensures.answer c.ended.ensures.page in
    record { answer = all.0; page = all.1; image = all.2 }
