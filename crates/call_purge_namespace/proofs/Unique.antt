-- Any two results that a public call's contract allows are equal, and so are the images that they leave (01, 'What the contracts have to say').
use Rattle.sector.proofs.Unique.{OneOutcome, unique}
use Rattle.call_purge_namespace.proofs.purge_erased_for_namespace.Kinds as purge_erased_for_namespace_kinds
use Rattle.call_purge_namespace.proofs.purge_erased_for_namespace.Reads as purge_erased_for_namespace

pub purge_erased_for_namespace_unique : OneOutcome 2 purge_erased_for_namespace_kinds.ps purge_erased_for_namespace_kinds.r (λ κs ex. ex.0.now) purge_erased_for_namespace.Learnt
purge_erased_for_namespace_unique κs args x y ex ey p q = (unique p.0 q.0, unique p.1 q.1)
