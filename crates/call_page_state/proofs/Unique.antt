-- Any two results that a public call's contract allows are equal, and so are the image and the record that they leave (01, 'What the contracts have to say').
use mathlib.Core.List.{List}
use Prim.Native.Nat.{ℕ}
use Rattle.page.specs.Record.{Page}
use Rattle.sector.proofs.Unique.{OneOutcome, unique, both_unique}
use Rattle.call_page_state.proofs.initialize.Kinds as initialize_kinds
use Rattle.call_page_state.proofs.initialize.Reads as initialize
use Rattle.call_page_state.proofs.mark_as_full.Kinds as mark_as_full_kinds
use Rattle.call_page_state.proofs.mark_as_full.Reads as mark_as_full

pub initialize_unique : OneOutcome {B = List ℕ × Page} 2 initialize_kinds.ps initialize_kinds.r (λ κs ex. (ex.0.now, ex.1.0.now)) initialize.Learnt
initialize_unique κs args x y ex ey p q = (unique p.0 q.0, both_unique (unique p.1.1 q.1.1) (unique p.1.0 q.1.0))

pub mark_as_full_unique : OneOutcome {B = List ℕ × Page} 2 mark_as_full_kinds.ps mark_as_full_kinds.r (λ κs ex. (ex.0.now, ex.1.0.now)) mark_as_full.Learnt
mark_as_full_unique κs args x y ex ey p q = (unique p.0 q.0, both_unique (unique p.1.1 q.1.1) (unique p.1.0 q.1.0))
