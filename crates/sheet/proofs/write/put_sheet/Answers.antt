use Rattle.sheet.proofs.Texts.{settings_room, points_room, sheet_put}
use Rattle.sheet.proofs.write.put_sheet.Goals as goal

pub put_settings-b-requires : goal.put_settings-b-requires
put_settings-b-requires c = rw c.raw_settings.ensures (settings_room c.args.e.now c.requires c.fit_text-a.ensures)

pub put_points-requires : goal.put_points-requires
put_points-requires c =
    let settings = rw c.raw_settings.ensures at c.put_settings-b.ensures in
    rw c.as_slice.ensures (points_room c.args.e.now c.requires c.fit_text-a.ensures settings c.fit_text-c.ensures)

pub returns : goal.returns
returns c =
    let settings = rw c.raw_settings.ensures at c.put_settings-b.ensures in
    let points = rw c.as_slice.ensures at c.put_points.ensures in
    sheet_put c.args.e.now c.requires c.fit_text-a.ensures settings c.fit_text-c.ensures points
