-- A history with a step of each kind: the statements about histories are not empty. Every answer is computed.
--
-- In order: the requests; the page after each step; what is computed; the history.
use mathlib.Core.Path.{◌≡◌, refl, sym, ap, ap₂, subst}
use mathlib.Core.Bool.{true}
use mathlib.Core.List.{List, [], ◌∷◌, ◌++◌, Memᴰ}
use Prim.Native.Nat.{ℕ}
use native.Mathlib.Omega.{arith}
use lib.ListN.{length, replicate}
use Rattle.call_append.specs.Append.{single_bytes, append_single, append_single_image, single_plan, append_variable, append_variable_image, variable_plan}
use Rattle.call_copy.specs.Copy.{copy_in, copy_in_image, copy_plan}
use Rattle.crc.specs.Crc.{shift, shifts, intake, register, crc32}
use Rattle.call_erase.specs.Erase.{erase_plan, erase, erase_image}
use Rattle.flash.specs.Flash.{all_ones, program, units, run}
use Rattle.call_page_state.specs.Calls.{initialised, initialise_plan, initialise_image}
use Rattle.opening_marks.specs.Marks.{changed_units}
use Rattle.opening_found.specs.Found.{header_verdict_of, kept_items}
use Rattle.opening.specs.Opening.{opened_map, first_map, opening_plan, opened_page, opening, opening_image}
use Rattle.page.specs.Record.{Page, next_free, fit_to_use, with_item, without, with_erased}
use Rattle.page.specs.Writing.{item_plan}
use Rattle.opening_reading.specs.Reading.{header_refusal, payload_refusal, Item, item, opened_states}
use Rattle.sector.specs.Header.{state_of_word, header_crc, header_bytes}
use Rattle.sector.specs.Item.{item_crc, hash_of, loads, item_bytes, sized_data}
use Rattle.sector.specs.Layout.{chunks}
use Rattle.sector.specs.Map.{count_in, mark_range, map_units}
use Rattle.sector.specs.Types.{item_type}
use Rattle.theorem_starred.specs.Edges.{fresh_image, single, sized}
use Rattle.theorem_power_cut.specs.History.{all_bytes, SingleRequest, VariableRequest, KeptIn, a_single, a_variable, a_copy, entries_of_write, History, opened, written, erased}
use Rattle.sector.specs.Answers.{Done}

-- ---- the requests

asked_single : SingleRequest single
asked_single =
    record { namespace = omega arith; kind = omega arith; chunk = omega arith; key_size = refl; key = refl; bytes_size = refl; bytes = refl }

abbrev payload : List ℕ
payload = replicate 33 7

asked_sized : VariableRequest sized payload
asked_sized = record { namespace = omega arith; kind = omega arith; chunk = omega arith; key_size = refl; key = refl; bytes = refl }

-- ---- the page after each step

-- just initialised, and opened
abbrev image₀ : List ℕ
image₀ = opening_image fresh_image

abbrev page₀ : Page
page₀ = (opening fresh_image).page

-- a single entry is put
abbrev image₁ : List ℕ
image₁ = append_single_image image₀ page₀ single 9

abbrev page₁ : Page
page₁ = (append_single image₀ page₀ single 9).page

-- 33 bytes are put
abbrev image₂ : List ℕ
image₂ = append_variable_image image₁ page₁ sized payload 18

abbrev page₂ : Page
page₂ = (append_variable image₁ page₁ sized payload 18).page

-- the single entry of another page, this one as it was then, is copied in
abbrev image₃ : List ℕ
image₃ = copy_in_image image₂ page₂ image₁ 0 9

abbrev page₃ : Page
page₃ = (copy_in image₂ page₂ image₁ 0 9).page

-- the items put: a single entry, data, the single entry once more
abbrev first : Item
first = item 0 (single_bytes single ∷ [])

abbrev others : List Item
others = item 1 (entries_of_write (a_variable sized payload asked_sized)) ∷ (item 4 (single_bytes single ∷ []) ∷ [])

-- as a history has them
abbrev items₃ : List Item
items₃ =
    ((kept_items fresh_image ++ (item (next_free page₀) (single_bytes single ∷ []) ∷ []))
    ++ (item (next_free page₁) (entries_of_write (a_variable sized payload asked_sized)) ∷ []))
    ++ (item (next_free page₂) (single_bytes single ∷ []) ∷ [])

-- ---- what is computed

record Computed : Type 0 where
  fresh_size : length fresh_image ≡ 4096
  fresh_bytes : all_bytes fresh_image ≡ true
  opens : (opening fresh_image).answer ≡ Done
  puts_single : (append_single image₀ page₀ single 9).answer ≡ Done
  puts_data : (append_variable image₁ page₁ sized payload 18).answer ≡ Done
  source_size : length image₁ ≡ 4096
  source_bytes : all_bytes image₁ ≡ true
  source_keeps : kept_items image₁ ≡ first ∷ []
  copies : (copy_in image₂ page₂ image₁ 0 9).answer ≡ Done
  erases : (erase image₃ page₃ 0 1).answer ≡ Done
  holds_nothing : kept_items fresh_image ≡ []
  next_free_lem : (next_free page₀ ≡ 0) × (next_free page₁ ≡ 1) × (next_free page₂ ≡ 4)

computed : Computed
unfolding append_single append_single_image single_plan append_variable append_variable_image variable_plan shift shifts intake register crc32 erase_plan erase_image all_ones program units run initialised initialise_plan initialise_image header_verdict_of kept_items opened_map first_map changed_units opening_plan opening_image header_refusal payload_refusal opened_states fit_to_use with_item without with_erased item_plan state_of_word header_crc header_bytes item_crc hash_of loads item_bytes sized_data chunks count_in mark_range map_units item_type opening opened_page copy_in copy_in_image copy_plan erase
computed =
    record {
      fresh_size = refl;
      fresh_bytes = refl;
      opens = refl;
      puts_single = refl;
      puts_data = refl;
      source_size = refl;
      source_bytes = refl;
      source_keeps = refl;
      copies = refl;
      erases = refl;
      holds_nothing = refl;
      next_free_lem = (refl, refl, refl);
    }

-- ---- the history

single_kept : KeptIn image₁ 0 (single_bytes single ∷ [])
single_kept =
    record {
      sector = record { size = computed.source_size; bytes = computed.source_bytes };
      kept = subst (Memᴰ first) (sym computed.source_keeps) (Memᴰ.head {xs = []} refl);
    }

put : History image₃ page₃ items₃
put =
    let start : History image₀ page₀ (kept_items fresh_image) =
    opened (record { size = computed.fresh_size; bytes = computed.fresh_bytes }) computed.opens in
    written (a_copy image₁ 0 (single_bytes single ∷ []) single_kept) 9
    (written (a_variable sized payload asked_sized) 18 (written (a_single single asked_single) 9 start computed.puts_single) computed.puts_data)
    computed.copies

items_are : items₃ ≡ first ∷ others
items_are =
    rw computed.holds_nothing
    (ap₂ (λ (at : ℕ) (rest : List Item). item at (single_bytes single ∷ []) ∷ rest) computed.next_free_lem.0
    (ap₂ (λ (at : ℕ) (rest : List Item). item at (entries_of_write (a_variable sized payload asked_sized)) ∷ rest) computed.next_free_lem.1
    (ap (λ (at : ℕ). item at (single_bytes single ∷ []) ∷ []) computed.next_free_lem.2)))

-- and the first item is erased
example : History (erase_image image₃ page₃ 0 1) (erase image₃ page₃ 0 1).page others
example = erased 0 (single_bytes single ∷ []) (subst (History image₃ page₃) items_are put) (Memᴰ.head {xs = others} refl) computed.erases
