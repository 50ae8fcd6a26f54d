-- `call_copy::copy_item_from` meets its contract: where no check refuses, the plan is that of the item's bytes, marks and state word.
use mathlib.Core.Path.{◌≡◌, ap, ◌∙◌}
use mathlib.Core.Bool.{true, false}
use mathlib.Core.List.{List, ◌++◌}
use Prim.Native.Nat.{ℕ, ◌+◌, ◌-◌}
use borrow.Author.Rules.{rules}
use lib.ListN.{length, take, drop}
use Rattle.std.specs.Prelude.{is_ok}
use Rattle.flash.specs.Flash.{Unit4, units, run}
use Rattle.sector.proofs.Laws.{accepted_done, accepted_refused}
use Rattle.page.proofs.Checks.{call_refused, call_ended}
use Rattle.page.specs.Record.{Page}
use Rattle.page.specs.Writing.{full_units, stops}
use Rattle.sector.specs.Answers.{Check}
use Rattle.sector.specs.Layout.{entry_address, span_of}
use Rattle.sector.specs.Map.{map_units}
use Rattle.call_copy.specs.Copy.{copy_checks, copy_plan, with_copy, copy_in, copy_in_image}
use Rattle.call_copy.proofs.Laws.{plan_copied, with_copied}
use Rattle.call_copy.proofs.copy_item_from.Goals as goal

pub returns-in_err-copy_refusal : goal.returns-in_err-copy_refusal
unfolding copy_in copy_in_image
returns-in_err-copy_refusal c =
    let z = c.args in
    let checks : List Check = copy_checks z.image.now z.page.now z.source.now z.index in
    let plan = copy_plan z.page.now z.source.now z.index in
    let refused : is_ok c.copy_refusal.result ≡ false = search rules in
    let same : c.from_residual.result ≡ c.copy_refusal.result = search rules in
    let all = call_refused checks z.page.now (with_copy z.page.now z.source.now z.index) z.image.now (stops z.stop plan) (take z.stop plan)
    (same ∙ c.copy_refusal.ensures.answer) (accepted_refused checks c.copy_refusal.ensures.answer refused) in
    record { answer = all.0; page = all.1; image = all.2 }

pub returns : goal.returns
unfolding copy_in copy_in_image
returns c =
    let z = c.args in
    let page : Page = z.page.now in
    let source : List ℕ = z.source.now in
    let checks : List Check = copy_checks z.image.now page source z.index in
    let plan : List Unit4 = copy_plan page source z.index in
    let start : ℕ = c.get_next_free_entry-start.result in
    let first : ℕ = c.entry_address-first.result in
    let end : ℕ = c.entry_address-end.result in
    let span : ℕ = span_of c.entry_at-entry.result in
    let done : is_ok c.copy_refusal.result ≡ true = search rules in
    let planned : units (entry_address start) (take (end - first) (drop first source)) ++ (map_units start span c.with_item-new.result.map ++ full_units (start + span)) ≡ plan = plan_copied page c.with_item-new.result source c.entry_at-entry.result z.index start first end _
    c.entry_at-entry.ensures
    c.with_item-new.ensures
    c.get_next_free_entry-start.ensures
    c.entry_address-first.ensures
    c.entry_address-end.ensures in
    let copied : c.with_item-new.result ≡ with_copy page source z.index = c.with_item-new.ensures
    ∙ with_copied page source c.entry_at-entry.result z.index _ c.entry_at-entry.ensures c.hash_of_item-hash.ensures in
    let all = call_ended checks page (with_copy page source z.index) z.image.now z.stop plan (accepted_done checks c.copy_refusal.ensures.answer done)
    (c.write_entries-total.ensures.total ∙ ap length planned)
    copied
    (c.write_entries-total.ensures.image ∙ ap (λ (units : List Unit4). run (take z.stop units) z.image.now) planned)
    c.ended.ensures.answer
    c.ended.ensures.page in
    record { answer = all.0; page = all.1; image = all.2 }
