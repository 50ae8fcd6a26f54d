-- Any two results that a public call's contract allows are equal, and so are the outputs that they leave (01, 'What the contracts have to say').
use Rattle.sector.proofs.Unique.{OneOutcome, unique}
use Rattle.call_load_data.proofs.load_referenced_data_into.Kinds as load_referenced_data_into_kinds
use Rattle.call_load_data.proofs.load_referenced_data_into.Reads as load_referenced_data_into

pub load_referenced_data_into_unique : OneOutcome 2 load_referenced_data_into_kinds.ps load_referenced_data_into_kinds.r (λ κs ex. ex.1.1.0.now) load_referenced_data_into.Learnt
load_referenced_data_into_unique κs args x y ex ey p q = (unique p.0 q.0, unique p.1 q.1)
