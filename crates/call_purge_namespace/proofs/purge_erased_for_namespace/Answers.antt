-- `call_purge_namespace::purge_erased_for_namespace` meets its contract: each `return` is the first check that refuses, or the marked entries are zeroed.
use mathlib.Core.Path.{refl, sym, ap, ◌∙◌}
use mathlib.Core.Bool.{Bool}
use mathlib.Core.List.{List}
use borrow.Author.Tests.{eq-eqb, ne_eqb}
use Rattle.flash.specs.Flash.{run}
use Rattle.call_purge_namespace.specs.PurgeNamespace.{zero_units, purge_namespace_plan, purge_namespace, purge_namespace_image}
use Rattle.call_purge_namespace.proofs.purge_erased_for_namespace.Goals as goal

pub returns-then-image-ne-SECTOR_SIZE : goal.returns-then-image-ne-SECTOR_SIZE
unfolding purge_namespace purge_namespace_image
returns-then-image-ne-SECTOR_SIZE c =
    rw (ne_eqb _ _ c.if-image-ne-SECTOR_SIZE.true) record {
      answer = refl;
      image = refl;
    }

pub returns-then-not-fit_to_use : goal.returns-then-not-fit_to_use
unfolding purge_namespace purge_namespace_image
returns-then-not-fit_to_use c =
    rw (eq-eqb _ _ c.if-image-ne-SECTOR_SIZE.false, sym c.fit_to_use.ensures ∙ c.if-not-fit_to_use.true) record {
      answer = refl;
      image = refl;
    }

pub returns : goal.returns
unfolding purge_namespace purge_namespace_image purge_namespace_plan
returns c =
    let image = c.args.image.now in
    rw (eq-eqb _ _ c.if-image-ne-SECTOR_SIZE.false, sym c.fit_to_use.ensures ∙ c.if-not-fit_to_use.false)
    record {
      answer = refl;
      image = c.zero_marked.ensures ∙ ap (λ (marks : List Bool). run (zero_units 0 marks) image) c.to_zero-marks.ensures;
    }
