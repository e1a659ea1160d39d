use Rattle.play.proofs.Texts.{line_made}
use Rattle.play.proofs.text.put_line.Goals as goal

pub returns : goal.returns
returns c = line_made c.args.number c.args.x c.requires c.fit_decimal-a.ensures (rw c.f32_to_bits_with_nan.ensures at c.fit_bits.ensures)
