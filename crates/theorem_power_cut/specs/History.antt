-- Histories (demand 3): a page as opening left it, then accepted appends, copies in of items that their source page's reading keeps,
-- and erasures of one whole kept item each.
--
-- In order: requests as a caller can make them; the next write, begun on a page; the history of a page.
-- A history is over (image, record, items): every step is a public call's definition that answers Done on the image and record before it.
use Rattle.std.specs.Prelude.{◌≡◌, Bool, true, cond, ℕ, ◌-◌, ◌*◌, ◌<◌, ltb, eqb, length, replicate}
use mathlib.Core.List.{List, [], ◌∷◌, ◌++◌, Memᴰ}
use Rattle.flash.specs.Flash.{every}
use Rattle.page.specs.Record.{Page, next_free}
use Rattle.sector.specs.Layout.{sector_size, entry_size, chunks}
use Rattle.call_append.specs.declared.Single.{Single}
use Rattle.call_append.specs.declared.Variable.{Variable}
use Rattle.call_append.specs.Append.{single_bytes, variable_header, span_for}
use Rattle.call_erase.specs.Erase.{erase, erase_image}
use Rattle.theorem_writing.specs.Promises.{PutRequest, single, variable, copied, Call, putting, outcome_of, image_of}
use Rattle.opening_reading.specs.Reading.{Item, item}
use Rattle.opening_found.specs.Found.{kept_items}
use Rattle.opening.specs.Opening.{opening, opening_image}
use Rattle.sector.specs.Answers.{Done}

-- ---- what a caller can hand in

-- every number is a byte
abbrev pub all_bytes : List ℕ → Bool
all_bytes bytes = every (λ b. ltb b 256) bytes

-- a sector: 4,096 bytes
pub record Sector (image : List ℕ) : Type 0 where
  pub size : length image ≡ sector_size
  pub bytes : all_bytes image ≡ true

-- a single entry's fields are bytes, 16 of them the key and 8 the data
pub record SingleRequest (request : Single) : Type 0 where
  pub namespace : request.namespace < 256
  pub kind : request.kind < 256
  pub chunk : request.chunk < 256
  pub key_size : length request.key ≡ 16
  pub key : all_bytes request.key ≡ true
  pub bytes_size : length request.bytes ≡ 8
  pub bytes : all_bytes request.bytes ≡ true

-- the same of a payload's header, and of the payload
pub record VariableRequest (request : Variable) (payload : List ℕ) : Type 0 where
  pub namespace : request.namespace < 256
  pub kind : request.kind < 256
  pub chunk : request.chunk < 256
  pub key_size : length request.key ≡ 16
  pub key : all_bytes request.key ≡ true
  pub bytes : all_bytes payload ≡ true

-- the source page's reading keeps an item at this index, with these entries
pub record KeptIn (source : List ℕ) (index : ℕ) (entries : List (List ℕ)) : Type 0 where
  pub sector : Sector source
  pub kept : Memᴰ (item index entries) (kept_items source)

-- ---- one more append or copy

-- what is begun: a single entry (a namespace is `a_single (namespace_item key value)`), data, or a copy of a kept item
pub data AppendOrCopy : Type 0 where
  a_single : (request : Single) → SingleRequest request → AppendOrCopy
  a_variable : (request : Variable) (payload : List ℕ) → VariableRequest request payload → AppendOrCopy
  a_copy : (source : List ℕ) (index : ℕ) (entries : List (List ℕ)) → KeptIn source index entries → AppendOrCopy

-- the request alone, as the calls take it
abbrev pub put_request : AppendOrCopy → PutRequest
put_request (a_single request ok) = single request
put_request (a_variable request payload ok) = variable request payload
put_request (a_copy source index entries ok) = copied source index

-- the call that it is
abbrev pub call_of : AppendOrCopy → Call
call_of write = putting (put_request write)

-- a payload in its k entries, the last one filled up with 0xFF
abbrev pub payload_entries : ℕ → List ℕ → List (List ℕ)
payload_entries k payload = chunks k (payload ++ replicate (entry_size * k - length payload) 0xFF)

-- the bytes of the item that it writes, entry by entry
abbrev pub entries_of_write : AppendOrCopy → List (List ℕ)
entries_of_write (a_single request ok) = single_bytes request ∷ []
entries_of_write (a_variable request payload ok) =
    variable_header request payload ∷ payload_entries (span_for (length payload) - 1) payload
entries_of_write (a_copy source index entries ok) = entries

-- the new item: next free is its index
abbrev pub new_item : AppendOrCopy → Page → Item
new_item write page = item (next_free page) (entries_of_write write)

-- ---- histories

-- the items but the one at this index
abbrev pub without_item : ℕ → List Item → List Item
without_item index [] = []
without_item index (item i entries ∷ items) = cond (eqb i index) (without_item index items) (item i entries ∷ without_item index items)

pub data History : List ℕ → Page → List Item → Type 0 where
  opened : {image : List ℕ} → Sector image → (opening image).answer ≡ Done
      → History (opening_image image) (opening image).page (kept_items image)
  written : {image : List ℕ} {page : Page} {items : List Item} (write : AppendOrCopy) (n : ℕ) → History image page items
      → (outcome_of (call_of write) image page n).answer ≡ Done
      → History (image_of (call_of write) image page n) (outcome_of (call_of write) image page n).page (items ++ (new_item write page ∷ []))
  erased : {image : List ℕ} {page : Page} {items : List Item} (index : ℕ) (entries : List (List ℕ)) → History image page items
      → Memᴰ (item index entries) items
      → (erase image page index (length entries)).answer ≡ Done
      → History (erase_image image page index (length entries)) (erase image page index (length entries)).page (without_item index items)
