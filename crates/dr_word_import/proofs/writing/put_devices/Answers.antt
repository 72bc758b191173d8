use Rattle.std.proofs.Common.{◌∙◌, ◌++◌, ◌∷◌, [], List, ap, sym, take}
use Rattle.std.specs.Prelude.{flat_map}
use Rattle.std.proofs.lemmas.List.{flat_map_more, take_more}
use Rattle.dr_base.specs.Texts.{Text}
use Rattle.dr_word_import.specs.Tables.{device_tables}
use Rattle.dr_word_import.specs.declared.device.Device.{Device}
use Rattle.dr_word_import.proofs.writing.put_devices.Goals as goal

pub loop-it-preserved : goal.loop-it-preserved
loop-it-preserved c =
    let all = c.args.all.now in
    let i = c.loop-it.it-index in
    let one = c.it-item.result in
    let f : Device → Text = λ it. device_tables all c.args.gate.now it in
    c.in_ok-put_device.ensures ∙ ap (λ (o : Text). o ++ f one) c.loop-it.invariant ∙ flat_map_more f c.args.out.now.items (take i all) one
    ∙ ap (λ (xs : List Device). c.args.out.now.items ++ flat_map f xs) (ap (λ (x : Device). take i all ++ x ∷ []) c.it-item.is ∙ sym (take_more all i one c.loop-it-test.true))
