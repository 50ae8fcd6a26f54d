-- Any two results that a contract of this crate allows are equal, by what its callers learn.
use Rattle.sector.proofs.Unique.{OneResult, unique}
use Rattle.page.proofs.ThinPage.fit_to_use.Kinds as fit_to_use_kinds
use Rattle.page.proofs.ThinPage.fit_to_use.Reads as fit_to_use

pub fit_to_use_unique : OneResult 1 fit_to_use_kinds.ps fit_to_use_kinds.r fit_to_use.Learnt
fit_to_use_unique κs args x y ex ey p q = unique p q
