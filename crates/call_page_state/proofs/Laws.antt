-- Laws of the header calls: how many units mark as full has.
use mathlib.Core.Path.{◌≡◌, refl}
use lib.ListN.{length}
use Rattle.flash.proofs.Laws.{length-units_whole}
use Rattle.sector.specs.declared.PageState.TheVariants.{Full}
use Rattle.sector.specs.Header.{state_bytes}
use Rattle.call_page_state.specs.Calls.{mark_full_plan}

-- the state word is one
pub length-mark_full_plan : length mark_full_plan ≡ 1
unfolding mark_full_plan
length-mark_full_plan = length-units_whole 0 1 (state_bytes Full) refl
