use Rattle.sheet.specs.Text.{controls_text, point_text}
use Rattle.sheet.proofs.Texts.{fifth_room, five_put}
use Rattle.sheet.proofs.write.put_point.Goals as goal

pub put_controls-requires : goal.put_controls-requires
unfolding point_text
put_controls-requires c =
    let r = c.args.r in
    let curve = rw c.from.ensures at c.fit_digits-d.ensures in
    fifth_room (controls_text r.curve r.cp1 r.cp2) c.requires c.fit_hex-a.ensures c.fit_optional-b.ensures c.fit_bits-c.ensures curve

pub returns : goal.returns
unfolding point_text
returns c =
    let r = c.args.r in
    let curve = rw c.from.ensures at c.fit_digits-d.ensures in
    five_put (controls_text r.curve r.cp1 r.cp2) c.requires c.fit_hex-a.ensures c.fit_optional-b.ensures c.fit_bits-c.ensures curve c.put_controls.ensures
