-- `initialize` meets its contract: a refusal leaves all as it is, else the header's units are done up to the stop.
use mathlib.Core.Path.{◌≡◌, refl, ap, ◌∙◌}
use mathlib.Core.Bool.{true, false, not}
use mathlib.Core.List.{List, [], ◌∷◌}
use Prim.Native.Nat.{ℕ}
use native.Mathlib.Omega.{arith}
use borrow.Author.Rules.{rules}
use lib.ListN.{take}
use Rattle.std.specs.Prelude.{is_ok}
use Rattle.crc.specs.Crc.{crc32}
use Rattle.flash.specs.Flash.{all_ones}
use Rattle.page.specs.Writing.{stops}
use Rattle.sector.proofs.Laws.{accepted_done, accepted_refused}
use Rattle.page.proofs.Checks.{accepted_usable, call_refused, call_ended}
use Rattle.sector.specs.declared.Refusal.TheVariants.{CorruptedData}
use Rattle.sector.specs.Answers.{Check}
use Rattle.sector.specs.Header.{header_crc, header_body, header_bytes, is_uninitialized}
use Rattle.sector.specs.Item.{crc_start}
use Rattle.call_page_state.specs.Calls.{initialise_checks, initialise_plan, initialised, initialise, initialise_image}
use Rattle.call_page_state.proofs.initialize.Goals as goal

-- the CRC of a new header is that of its body
header_crc_bytes : (sequence : ℕ) → header_crc (header_bytes sequence) ≡ crc32 crc_start (header_body sequence)
unfolding header_crc header_bytes
header_crc_bytes sequence = refl

pub returns-in_err-initialize_refusal : goal.returns-in_err-initialize_refusal
unfolding initialise initialise_image
returns-in_err-initialize_refusal c =
    let z = c.args in
    let checks : List Check = initialise_checks z.image.now z.page.now in
    let plan = initialise_plan z.sequence in
    let refused : is_ok c.initialize_refusal.result ≡ false = search rules in
    let same : c.from_residual.result ≡ c.initialize_refusal.result = search rules in
    let all = call_refused checks z.page.now (initialised z.page.now z.sequence) z.image.now (stops z.stop plan) (take z.stop plan)
    (same ∙ c.initialize_refusal.ensures) (accepted_refused checks c.initialize_refusal.ensures refused) in
    record { answer = all.0; page = all.1; image = all.2 }

pub write_aligned-total-requires : goal.write_aligned-total-requires
write_aligned-total-requires c =
    let z = c.args in
    let done : is_ok c.initialize_refusal.result ≡ true = search rules in
    let passed = accepted_done (initialise_checks z.image.now z.page.now) c.initialize_refusal.ensures done in
    let usable = accepted_usable z.image.now z.page.now (not (is_uninitialized z.page.now.state)) ((not (all_ones z.image.now), CorruptedData) ∷ []) passed in
    omega (arith, usable.whole)

pub initialized-new-requires : goal.initialized-new-requires
initialized-new-requires c =
    c.header_crc-crc.ensures ∙ ap header_crc c.header_bytes-header.ensures ∙ header_crc_bytes c.args.sequence

pub returns : goal.returns
unfolding initialise initialise_image initialise_plan
returns c =
    let z = c.args in
    let checks : List Check = initialise_checks z.image.now z.page.now in
    let done : is_ok c.initialize_refusal.result ≡ true = search rules in
    let all = call_ended checks z.page.now (initialised z.page.now z.sequence) z.image.now z.stop (initialise_plan z.sequence)
    (accepted_done checks c.initialize_refusal.ensures done)
    (rw (← c.header_bytes-header.ensures) c.write_aligned-total.ensures.total) c.initialized-new.ensures
    (rw (← c.header_bytes-header.ensures) c.write_aligned-total.ensures.image) c.ended.ensures.answer c.ended.ensures.page in
    record { answer = all.0; page = all.1; image = all.2 }
