-- Any two results that a public call's contract allows are equal, and so are the records and the images that they leave (01, 'What the contracts have to say').
use Rattle.sector.proofs.Unique.{OneOutcome, unique, both_unique}
use mathlib.Core.List.{List}
use Prim.Native.Nat.{ℕ}
use Rattle.page.specs.Record.{Page}
use Rattle.call_copy.proofs.copy_item_from.Kinds as copy_item_from_kinds
use Rattle.call_copy.proofs.copy_item_from.Reads as copy_item_from

pub copy_item_from_unique : OneOutcome {B = List ℕ × Page} 3 copy_item_from_kinds.ps copy_item_from_kinds.r (λ κs ex. (ex.0.now, ex.1.0.now)) copy_item_from.Learnt
copy_item_from_unique κs args x y ex ey p q = (unique p.0 q.0, both_unique (unique p.1.1 q.1.1) (unique p.1.0 q.1.0))
