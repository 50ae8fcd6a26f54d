-- `call_load_data::payload_refusal` meets its contract: each `return` is the first of `payload_checks` that refuses, or none.
use mathlib.Core.Path.{◌≡◌, sym, ap, ◌∙◌}
use mathlib.Core.Bool.{Bool, true, cond}
use mathlib.Core.List.{List}
use Prim.Native.Nat.{ℕ, ◌+◌, ◌-◌, ◌*◌, ◌≤◌}
use native.Mathlib.Omega.{arith}
use borrow.Author.Tests.{eq-eqb, ne_eqb, lt-ltb, le-ltb, not-true, not-false}
use lib.Dec.{ltb}
use Rattle.std.specs.Prelude.{Err}
use Rattle.sector.specs.declared.Refusal.TheVariants.{CorruptedData}
use Rattle.sector.specs.declared.Kind.{Kind}
use Rattle.sector.specs.Answers.{Done, refusal}
use Rattle.sector.specs.Layout.{entries_per_page, entry_size, span_of, size_of, type_byte_of}
use Rattle.sector.specs.Types.{kind_of, item_type, has_payload}
use Rattle.call_load_data.specs.Payload.{rounded_up, payload_checks}
use Rattle.call_load_data.proofs.payload_refusal.Goals as goal

-- what the type byte decides on the payload
payload_of : (k : Kind) (byte : ℕ) {payload : Bool} → k ≡ kind_of byte → k.payload ≡ payload → has_payload (item_type byte) ≡ payload
unfolding kind_of
payload_of k byte e p = ap (λ (k : Kind). k.payload) (sym e) ∙ p

-- past the type and the span, the size and the room decide
sized : (entry : List ℕ) (index room : ℕ) {size : ℕ} → has_payload (item_type (type_byte_of entry)) ≡ true → (span_of entry ≡ 0 → ⊥)
    → index + span_of entry ≤ entries_per_page → size ≡ size_of entry
    → refusal (payload_checks entry index room)
    ≡ cond (ltb (entry_size * (span_of entry - 1)) size) (Err CorruptedData) (cond (ltb room (rounded_up size)) (Err CorruptedData) Done)
sized entry index room payload some spans e =
    rw (payload, ne_eqb (span_of entry) 0 some, le-ltb entries_per_page (index + span_of entry) spans, e)

pub returns-then-not-kind_of : goal.returns-then-not-kind_of
returns-then-not-kind_of c =
    rw (payload_of c.kind_of.result (type_byte_of c.args.entry) c.kind_of.ensures (not-true _ c.if-not-kind_of.true))

pub returns-then-span-eq0 : goal.returns-then-span-eq0
returns-then-span-eq0 c =
    let payload = payload_of c.kind_of.result (type_byte_of c.args.entry) c.kind_of.ensures (not-false _ c.if-not-kind_of.false) in
    rw (payload, eq-eqb _ _ c.if-span-eq0.true)

pub returns-then-span-index : goal.returns-then-span-index
returns-then-span-index c =
    let args = c.args in
    let payload = payload_of c.kind_of.result (type_byte_of args.entry) c.kind_of.ensures (not-false _ c.if-not-kind_of.false) in
    rw (payload, ne_eqb _ _ c.if-span-eq0.false, lt-ltb entries_per_page (args.index + span_of args.entry) (omega arith))

pub returns-then-size-span : goal.returns-then-size-span
returns-then-size-span c =
    let args = c.args in
    let payload = payload_of c.kind_of.result (type_byte_of args.entry) c.kind_of.ensures (not-false _ c.if-not-kind_of.false) in
    rw (sized args.entry args.index args.room payload c.if-span-eq0.false (omega arith) c.size_of-size.ensures.0, lt-ltb (entry_size * (span_of args.entry - 1)) _ c.if-size-span.true)

pub returns-then-room-rounded_up : goal.returns-then-room-rounded_up
returns-then-room-rounded_up c =
    let args = c.args in
    let payload = payload_of c.kind_of.result (type_byte_of args.entry) c.kind_of.ensures (not-false _ c.if-not-kind_of.false) in
    rw (
      sized args.entry args.index args.room payload c.if-span-eq0.false (omega arith) c.size_of-size.ensures.0,
      le-ltb (entry_size * (span_of args.entry - 1)) _ c.if-size-span.false,
      ← c.rounded_up.ensures,
      lt-ltb _ _ c.if-room-rounded_up.true,
    )

pub returns : goal.returns
returns c =
    let args = c.args in
    let payload = payload_of c.kind_of.result (type_byte_of args.entry) c.kind_of.ensures (not-false _ c.if-not-kind_of.false) in
    rw (
      sized args.entry args.index args.room payload c.if-span-eq0.false (omega arith) c.size_of-size.ensures.0,
      le-ltb (entry_size * (span_of args.entry - 1)) _ c.if-size-span.false,
      ← c.rounded_up.ensures,
      le-ltb _ _ c.if-room-rounded_up.false,
    )
