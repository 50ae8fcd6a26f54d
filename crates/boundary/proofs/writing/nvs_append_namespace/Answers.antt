-- `nvs_append_namespace` meets its contract: a wrong size changes nothing, else the call's answer is handed back with its record.
use mathlib.Core.Path.{refl}
use borrow.Author.Rules.{rules}
use Rattle.call_append.specs.Append.{append_single, append_single_image, namespace_item}
use Rattle.boundary.specs.Boundary.{namespace_left}
use Rattle.boundary.proofs.Laws.{wrong_size_lem, right_size, called_over}
use Rattle.boundary.proofs.writing.nvs_append_namespace.Goals as goal

pub returns-then-buffer-ne-RECORD_SIZE : goal.returns-then-buffer-ne-RECORD_SIZE
unfolding namespace_left
returns-then-buffer-ne-RECORD_SIZE c =
    rw (wrong_size_lem 675 _ c.if-buffer-ne-RECORD_SIZE.true) (record {
      number = refl;
      image = refl;
      buffer = refl;
    })

pub returns-then-key-ne-KEY_SIZE : goal.returns-then-key-ne-KEY_SIZE
unfolding namespace_left
returns-then-key-ne-KEY_SIZE c =
    rw (right_size 675 _ c.if-buffer-ne-RECORD_SIZE.false, wrong_size_lem 16 _ c.if-key-ne-KEY_SIZE.true) (record {
      number = refl;
      image = refl;
      buffer = refl;
    })

pub returns : goal.returns
unfolding namespace_left
returns c =
    let z = c.args in
    rw (right_size 675 _ c.if-buffer-ne-RECORD_SIZE.false, right_size 16 _ c.if-key-ne-KEY_SIZE.false)
    (let both = called_over (λ page. append_single z.image.now page (namespace_item z.key.now z.value) z.stop) (λ page. append_single_image z.image.now page (namespace_item z.key.now z.value) z.stop) z.buffer.now
    c.record_of-page.ensures (rw c.array_of-name.ensures at c.write_namespace-answer.ensures.answer) (rw c.array_of-name.ensures at c.write_namespace-answer.ensures.page) (rw c.array_of-name.ensures at c.write_namespace-answer.ensures.image) (c.hand_back.ensures.number, c.hand_back.ensures.buffer) in
    record { number = both.0; image = both.1.0; buffer = both.1.1 })
