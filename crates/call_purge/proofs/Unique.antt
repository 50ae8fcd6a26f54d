-- Any two results that a public call's contract allows are equal, and so are the images that they leave (01, 'What the contracts have to say').
use Rattle.sector.proofs.Unique.{OneOutcome, unique}
use Rattle.call_purge.proofs.purge_entries.Kinds as purge_entries_kinds
use Rattle.call_purge.proofs.purge_entries.Reads as purge_entries

pub purge_entries_unique : OneOutcome 1 purge_entries_kinds.ps purge_entries_kinds.r (λ κs ex. ex.0.now) purge_entries.Learnt
purge_entries_unique κs args x y ex ey p q = (unique p.0 q.0, unique p.1 q.1)
