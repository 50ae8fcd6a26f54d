-- What the accepted checks of appending a single entry tell.
use mathlib.Core.Path.{◌≡◌}
use mathlib.Core.Bool.{true}
use mathlib.Core.List.{List, [], ◌∷◌}
use Prim.Native.Nat.{ℕ}
use native.Mathlib.Omega.{arith}
use Rattle.page.specs.Record.{Page}
use Rattle.page.specs.Writing.{not_active, over_free}
use Rattle.sector.proofs.Laws.{accepted_tail}
use Rattle.page.proofs.Checks.{accepted_room, accepted_usable}
use Rattle.sector.specs.declared.Refusal.TheVariants.{BadRequest}
use Rattle.sector.specs.Answers.{accepted}
use Rattle.call_append.specs.declared.Single.{Single}
use Rattle.call_append.specs.Append.{Room, single_request, single_checks}

pub single_room : (image : List ℕ) (page : Page) (item : Single) → accepted (single_checks image page item) ≡ true → Room image page 1
single_room image page item h =
    let usable = accepted_usable image page (not_active page).0 (single_request item ∷ over_free page 1 ∷ []) h in
    let behind_request = accepted_tail (single_request item).0 BadRequest (over_free page 1 ∷ []) usable.rest in
    record { whole = usable.whole; fit = usable.fit; room = accepted_room page 1 (omega arith) behind_request }
