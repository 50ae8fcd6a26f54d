-- `call_load_data::load_referenced_data_into` meets its contract: it copies where neither load nor the payload's checks refuse, and what passed them lies inside the image.
use Rattle.std.proofs.Common.{rules, ◌≡◌, ◌∙◌, ap, sym, ℕ, ◌+◌, ◌-◌, ◌++◌, length, take, drop, true}
use Rattle.std.specs.Prelude.{Err, is_ok}
use Rattle.sector.specs.Layout.{entry_at}
use Rattle.call_load.specs.Load.{load_checks, load_item}
use Rattle.call_load.proofs.Laws.{load_fits, read_item}
use Rattle.call_load_data.proofs.Laws.{reads_data, refused_loading, refused_payload, data_lies, data_room, data_read, length_part}
use Rattle.call_load_data.proofs.load_referenced_data_into.Goals as goal

pub returns-in_err-item : goal.returns-in_err-item
unfolding load_item
returns-in_err-item c =
    let same : c.from_residual.result ≡ Err c.in_err-item.field-0.0 = search rules in
    let all = refused_loading c.args.image.now c.args.index c.args.output.now (sym c.in_err-item.was ∙ c.load_item.ensures) same in
    record { answer = all.0; output = all.1 }

pub payload_refusal-requires : goal.payload_refusal-requires
unfolding load_item
payload_refusal-requires c =
    let loaded = read_item (load_checks c.args.image.now c.args.index) (entry_at c.args.image.now c.args.index) (sym c.in_ok-item.was ∙ c.load_item.ensures) in
    (load_fits c.args.image.now c.args.index loaded.passed).1

pub returns-in_err-payload_refusal : goal.returns-in_err-payload_refusal
unfolding load_item
returns-in_err-payload_refusal c =
    let same : c.from_residual-in_err-payload_refusal.result ≡ Err c.in_err-payload_refusal.field-0.0 = search rules in
    let all = refused_payload c.args.image.now c.args.index c.args.output.now (sym c.in_ok-item.was ∙ c.load_item.ensures)
    (sym c.in_err-payload_refusal.was ∙ c.payload_refusal.ensures) same in
    record { answer = all.0; output = all.1 }

pub slice_bounds-copy_to-end : goal.slice_bounds-copy_to-end
unfolding load_item
slice_bounds-copy_to-end c =
    let done : is_ok c.payload_refusal.result ≡ true = search rules in
    let reads = reads_data c.args.image.now c.args.index (length c.args.output.now) (sym c.in_ok-item.was ∙ c.load_item.ensures) c.payload_refusal.ensures done in
    data_lies _ _ _ reads c.size_of-size.ensures.0 c.rounded_up-read.ensures c.entry_address-start.ensures

pub copy_to-requires : goal.copy_to-requires
unfolding load_item
copy_to-requires c =
    let done : is_ok c.payload_refusal.result ≡ true = search rules in
    let reads = reads_data c.args.image.now c.args.index (length c.args.output.now) (sym c.in_ok-item.was ∙ c.load_item.ensures) c.payload_refusal.ensures done in
    let inside = data_lies _ _ _ reads c.size_of-size.ensures.0 c.rounded_up-read.ensures c.entry_address-start.ensures in
    let long = length_part c.args.image.now c.entry_address-start.result c.rounded_up-read.result inside in
    rw long (data_room _ _ _ reads c.size_of-size.ensures.0 c.rounded_up-read.ensures)

pub returns : goal.returns
unfolding load_item
returns c =
    let image = c.args.image.now in
    let output = c.args.output.now in
    let start = c.entry_address-start.result in
    let n = c.rounded_up-read.result in
    let done : is_ok c.payload_refusal.result ≡ true = search rules in
    let reads = reads_data image c.args.index (length output) (sym c.in_ok-item.was ∙ c.load_item.ensures) c.payload_refusal.ensures done in
    let inside = data_lies _ _ _ reads c.size_of-size.ensures.0 c.rounded_up-read.ensures c.entry_address-start.ensures in
    let all = data_read image output c.args.index reads c.size_of-size.ensures.0 c.rounded_up-read.ensures c.entry_address-start.ensures in
    let part = take (start + n - start) (drop start image) in
    let laid = ap (λ (k : ℕ). part ++ drop k output) (length_part image start n inside) in
    record { answer = all.0; output = c.copy_to.ensures ∙ laid ∙ all.1 }
