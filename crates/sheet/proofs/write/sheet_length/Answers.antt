use mathlib.Core.Path.{ap, ◌∙◌}
use native.Mathlib.Omega.{arith}
use lib.ListN.{length, length-take}
use Rattle.sheet.specs.Text.{settings_text, point_texts}
use Rattle.lines.specs.declared.settings.RawSettings.{RawSettings}
use Rattle.sheet.proofs.Texts.{settings_le, sheet_length, texts_few}
use Rattle.sheet.proofs.write.sheet_length.Goals as goal

pub overflow_add-result : goal.overflow_add-result
overflow_add-result c = omega (arith, c.settings_length.ensures, settings_le c.raw_settings.result)

pub overflow_add-result-2 : goal.overflow_add-result-2
overflow_add-result-2 c = omega (arith, c.settings_length.ensures, settings_le c.raw_settings.result)

pub points_length-requires : goal.points_length-requires
points_length-requires c =
    let ps = c.args.e.now.points in
    rw c.as_slice.ensures (omega (arith, length-take ps.count ps.places, c.requires))

pub overflow_add-result-3 : goal.overflow_add-result-3
overflow_add-result-3 c =
    let n = rw c.as_slice.ensures at c.points_length.ensures in
    omega (arith, c.settings_length.ensures, settings_le c.raw_settings.result, n, texts_few c.args.e.now c.requires)

pub returns : goal.returns
returns c =
    let n = rw c.as_slice.ensures at c.points_length.ensures in
    omega (arith, c.settings_length.ensures ∙ ap (λ (r : RawSettings). length (settings_text r)) c.raw_settings.ensures, n, sheet_length c.args.e.now)
