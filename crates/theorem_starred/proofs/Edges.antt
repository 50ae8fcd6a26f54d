-- The starred edges hold: every row of the table computes to what 01 says.
use mathlib.Core.Path.{refl}
use Rattle.theorem_starred.specs.Edges.{StarredEdges}
use Rattle.call_append.specs.Append.{append_single, append_single_image, single_plan, append_variable, append_variable_image, variable_plan}
use Rattle.crc.specs.Crc.{shift, shifts, intake, register, crc32}
use Rattle.call_erase.specs.Erase.{erase_plan, erase_image}
use Rattle.call_purge.specs.Purge.{purge_plan, purge_image}
use Rattle.flash.specs.Flash.{all_ones, program, units, run}
use Rattle.call_page_state.specs.Calls.{initialised, initialise_plan, initialise_image}
use Rattle.call_load_data.specs.Payload.{data_answer}
use Rattle.call_load.specs.Load.{load_item}
use Rattle.opening_marks.specs.Marks.{changed_units}
use Rattle.opening_found.specs.Found.{header_verdict_of, kept_items}
use Rattle.opening.specs.Opening.{opened_map, first_map, opening_plan, opening_image}
use Rattle.opening_reading.specs.Reading.{header_refusal, payload_refusal, opened_states}
use Rattle.page.specs.Record.{fit_to_use, with_item, without, with_erased}
use Rattle.page.specs.Writing.{item_plan}
use Rattle.sector.specs.Header.{state_of_word, header_crc, header_bytes}
use Rattle.sector.specs.Item.{item_crc, hash_of, loads, item_bytes, sized_data}
use Rattle.sector.specs.Layout.{chunks}
use Rattle.sector.specs.Map.{count_in, mark_range, map_units}
use Rattle.sector.specs.Types.{item_type}

pub starred_edges : StarredEdges
unfolding append_single append_single_image single_plan append_variable append_variable_image variable_plan shift shifts intake register crc32 erase_plan erase_image purge_plan purge_image all_ones program units run initialised initialise_plan initialise_image load_item data_answer header_verdict_of kept_items opened_map first_map changed_units opening_plan opening_image header_refusal payload_refusal opened_states fit_to_use with_item without with_erased item_plan state_of_word header_crc header_bytes item_crc hash_of loads item_bytes sized_data chunks count_in mark_range map_units item_type
starred_edges = refl
