-- `nvs_hash` meets its contract: a wrong size changes nothing, else the call's number is laid out.
use mathlib.Core.Path.{refl, ap, ◌∙◌}
use Prim.Native.Nat.{ℕ}
use borrow.Author.Rules.{rules}
use mathlib.Core.List.{List}
use Rattle.sector.specs.Item.{hash_of}
use Rattle.boundary_encoding.specs.Encoding.{answer_bytes, zero_item, no_counts}
use Rattle.boundary.specs.Boundary.{hash_given}
use Rattle.boundary.proofs.Laws.{wrong_size_lem, right_size}
use Rattle.sector.specs.Answers.{Done}
use Rattle.boundary.proofs.sums.nvs_hash.Goals as goal

pub returns-then-buffer-ne-ANSWER_SIZE : goal.returns-then-buffer-ne-ANSWER_SIZE
unfolding hash_given
returns-then-buffer-ne-ANSWER_SIZE c =
    rw (wrong_size_lem 57 _ c.if-buffer-ne-ANSWER_SIZE.true) (record {
      number = refl;
      buffer = refl;
    })

pub returns-then-key-ne-KEY_SIZE : goal.returns-then-key-ne-KEY_SIZE
unfolding hash_given
returns-then-key-ne-KEY_SIZE c =
    rw (right_size 57 _ c.if-buffer-ne-ANSWER_SIZE.false, wrong_size_lem 16 _ c.if-key-ne-KEY_SIZE.true) (record {
      number = refl;
      buffer = refl;
    })

pub returns : goal.returns
unfolding hash_given
returns c =
    let z = c.args in
    rw (right_size 57 _ c.if-buffer-ne-ANSWER_SIZE.false, right_size 16 _ c.if-key-ne-KEY_SIZE.false)
    (record {
      number = c.give_number.ensures.number;
      buffer = c.give_number.ensures.buffer ∙ ap (λ (value : ℕ). answer_bytes 0 value zero_item no_counts) (c.calculate_hash-hash.ensures ∙ ap (λ (key : List ℕ). hash_of z.namespace key z.chunk) c.array_of.ensures);
    })
