use Rattle.fields.specs.Text.{number_text}
use Rattle.fields.proofs.Stores.{put_fits}
use Rattle.sheet.specs.Text.{settings_text}
use Rattle.sheet.proofs.Texts.{sixth_room, six_put}
use Rattle.sheet.proofs.write.put_settings.Goals as goal

pub returns : goal.returns
unfolding settings_text
returns c =
    let a = c.fit_decimal-a.ensures in
    let b = c.fit_flag-b.ensures in
    let min = rw c.wide.ensures at c.fit_optional-c.ensures in
    let max = rw c.wide-2.ensures at c.fit_optional-d.ensures in
    let step = rw c.wide-3.ensures at c.fit_optional-e.ensures in
    let u = number_text 2 1 10 c.args.r.hard in
    six_put u c.requires a b min max step (put_fits c.fit_flag.ensures (sixth_room u c.requires a b min max step))
