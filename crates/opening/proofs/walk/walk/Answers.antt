-- `walk::walk` meets its contract: up to the entry reached the map, the refused headers and the list are the walk's, and from there on nothing is done yet.
use Rattle.std.proofs.Common.{◌≡◌, ap, ◌∙◌, length, arith}
use Rattle.opening_reading.specs.declared.Walk.{Walk}
use Rattle.opening_reading.proofs.Steps.{told_verdict, told_inside}
use Rattle.opening_marks.proofs.Arrays.{bytes_of_array}
use Rattle.opening.proofs.Progress.{marked_start, marked_step, marked_end, heads_start, heads_step, heads_end, listed_start, listed_step, listed_end}
use Rattle.opening.proofs.walk.walk.Goals as goal

pub loop-index-init : goal.loop-index-init
loop-index-init c =
    let image = c.args.image.now in
    let map = c.args.map in
    let long : length map ≡ 32 = omega arith in
    let walk = c.new-index-items.ensures in
    let same = c.into_iter-index-iterator.ensures.into_iter_gives in
    let start : c.into_iter-index-iterator.result.index ≡ 0 = ap (λ (walk : Walk). walk.index) same ∙ walk.index in
    let of_image = ap (λ (walk : Walk). walk.image.now) same ∙ walk.image in
    record {
      can = rw of_image c.requires;
      finite = tt;
      image = of_image;
      map = ap (λ (walk : Walk). walk.map) same ∙ walk.map;
      reached = omega arith;
      marks = rw start (marked_start image map long (bytes_of_array map _ c.well_formed.1.0.1.1));
      heads = rw start (heads_start image map);
      listed = rw (start, c.empty-listing.ensures) (listed_start image map);
    }

pub marked_by-next-requires : goal.marked_by-next-requires
marked_by-next-requires c =
    let at = c.loop-index.invariant in
    let told = c.in-Some.ensures.steps in
    rw told.index (told_inside at.image at.map told (omega arith))

pub loop-index-preserved : goal.loop-index-preserved
loop-index-preserved c =
    let image = c.args.image.now in
    let map = c.args.map in
    let long : length map ≡ 32 = omega arith in
    let at = c.loop-index.invariant in
    let walk = c.loop-index.index-iterator in
    let told = c.in-Some.ensures.steps in
    let verdict = told_verdict at.image at.map told in
    let fits = told_inside at.image at.map told long in
    record {
      can = rw told.image at.can;
      finite = tt;
      image = told.image ∙ at.image;
      map = told.map ∙ at.map;
      reached = omega (arith, told.next, fits);
      marks = rw (told.next, c.marked_by-next.ensures, told.index) (marked_step image map c.loop-index.marked walk.index long told.inside at.marks c.in-Some.verdict verdict);
      heads = rw (told.next, c.is_refused_item.ensures, told.index, ← verdict) (heads_step image map c.loop-index.heads walk.index long told.inside at.heads);
      listed = rw (told.next, c.list_by.ensures, told.index) (listed_step image map c.loop-index.listing walk.index long told.inside at.listed c.in-Some.verdict verdict);
    }

pub returns : goal.returns
returns c =
    let image = c.args.image.now in
    let map = c.args.map in
    let long : length map ≡ 32 = omega arith in
    let at = c.loop-index.invariant in
    let index = c.loop-index.index-iterator.index in
    let end : index ≡ 126 = omega (arith, c.in-None.ensures.steps) in
    record {
      marks = marked_end image map c.loop-index.marked index long end at.marks;
      heads = heads_end image map c.loop-index.heads index long end at.heads;
      listing = listed_end image map c.loop-index.listing index long end at.listed;
    }
