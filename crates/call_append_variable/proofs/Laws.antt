-- What the accepted checks of appending data tell.
use mathlib.Core.Path.{◌≡◌}
use mathlib.Core.Bool.{true}
use mathlib.Core.List.{List, [], ◌∷◌}
use Prim.Native.Nat.{ℕ}
use native.Mathlib.Omega.{arith}
use lib.Dec.{ltb}
use lib.ListN.{length}
use Rattle.page.specs.Record.{Page}
use Rattle.page.specs.Writing.{not_active, over_free}
use Rattle.sector.proofs.Laws.{accepted_tail}
use Rattle.page.proofs.Checks.{accepted_room, accepted_usable}
use Rattle.sector.specs.declared.Refusal.TheVariants.{BadRequest, ValueTooLong}
use Rattle.sector.specs.Answers.{accepted}
use Rattle.sector.specs.Layout.{entries_per_page}
use Rattle.call_append.specs.declared.Variable.{Variable}
use Rattle.call_append.specs.Append.{Room, span_for, variable_request, variable_checks}

pub variable_room : (image : List ℕ) (page : Page) (item : Variable) (payload : List ℕ)
    → accepted (variable_checks image page item payload) ≡ true → Room image page (span_for (length payload))
variable_room image page item payload h =
    let span = span_for (length payload) in
    let too_long = ltb entries_per_page span in
    let usable = accepted_usable image page (not_active page).0 (variable_request item ∷ (too_long, ValueTooLong) ∷ over_free page span ∷ []) h in
    let behind_request = accepted_tail (variable_request item).0 BadRequest ((too_long, ValueTooLong) ∷ over_free page span ∷ []) usable.rest in
    let behind_length = accepted_tail too_long ValueTooLong (over_free page span ∷ []) behind_request in
    record { whole = usable.whole; fit = usable.fit; room = accepted_room page span (omega arith) behind_length }
