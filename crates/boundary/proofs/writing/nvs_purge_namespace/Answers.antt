-- `nvs_purge_namespace` meets its contract: a wrong size changes nothing, else the call's answer is handed back with its record.
use mathlib.Core.Bool.{false}
use mathlib.Core.Path.{refl}
use borrow.Author.Rules.{rules}
use Rattle.call_purge_namespace.specs.PurgeNamespace.{purge_namespace_checks, purge_namespace, purge_namespace_image}
use Rattle.boundary.specs.Boundary.{purge_namespace_left}
use Rattle.boundary.proofs.Laws.{wrong_size_lem, right_size, called_over, same_record}
use Rattle.boundary.proofs.writing.nvs_purge_namespace.Goals as goal

pub returns-then-buffer-ne-RECORD_SIZE : goal.returns-then-buffer-ne-RECORD_SIZE
unfolding purge_namespace_left
returns-then-buffer-ne-RECORD_SIZE c =
    rw (wrong_size_lem 675 _ c.if-buffer-ne-RECORD_SIZE.true) (record {
      number = refl;
      image = refl;
      buffer = refl;
    })

pub returns : goal.returns
unfolding purge_namespace_left purge_namespace
returns c =
    let z = c.args in
    rw (right_size 675 _ c.if-buffer-ne-RECORD_SIZE.false)
    (let both = called_over (λ page. purge_namespace z.image.now page z.namespace) (λ page. purge_namespace_image z.image.now page z.namespace) z.buffer.now
    c.record_of-page.ensures c.purge_erased_for_namespace-answer.ensures.answer (same_record (purge_namespace_checks z.image.now c.record_of-page.result) false c.record_of-page.result) c.purge_erased_for_namespace-answer.ensures.image (c.hand_back.ensures.number, c.hand_back.ensures.buffer) in
    record { number = both.0; image = both.1.0; buffer = both.1.1 })
