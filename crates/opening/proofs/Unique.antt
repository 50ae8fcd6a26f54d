-- Any two results that a public call's contract allows are equal, and so are the images that they leave (01, 'What the contracts have to say').
use Rattle.sector.proofs.Unique.{OneOutcome, unique}
use Rattle.opening.proofs.open_page.Kinds as open_page_kinds
use Rattle.opening.proofs.open_page.Reads as open_page
use Rattle.opening.proofs.open_stopped.Kinds as open_stopped_kinds
use Rattle.opening.proofs.open_stopped.Reads as open_stopped

pub open_page_unique : OneOutcome 1 open_page_kinds.ps open_page_kinds.r (λ κs ex. ex.0.now) open_page.Learnt
open_page_unique κs args x y ex ey p q = (unique p.0 q.0, unique p.1 q.1)

pub open_stopped_unique : OneOutcome 1 open_stopped_kinds.ps open_stopped_kinds.r (λ κs ex. ex.0.now) open_stopped.Learnt
open_stopped_unique κs args x y ex ey p q = (unique p.0 q.0, unique p.1 q.1)
