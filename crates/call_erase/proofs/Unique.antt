-- Any two results that a public call's contract allows are equal, and so are the images that they leave (01, 'What the contracts have to say').
use Rattle.sector.proofs.Unique.{OneOutcome, unique, both_unique}
use mathlib.Core.List.{List}
use Prim.Native.Nat.{ℕ}
use Rattle.page.specs.Record.{Page}
use Rattle.call_erase.proofs.erase_item.Kinds as erase_item_kinds
use Rattle.call_erase.proofs.erase_item.Reads as erase_item

pub erase_item_unique : OneOutcome {B = List ℕ × Page} 2 erase_item_kinds.ps erase_item_kinds.r (λ κs ex. (ex.0.now, ex.1.0.now)) erase_item.Learnt
erase_item_unique κs args x y ex ey p q = (unique p.0 q.0, both_unique (unique p.1.1 q.1.1) (unique p.1.0 q.1.0))
