use Rattle.std.proofs.Common.{◌-◌}
use Rattle.player.proofs.print_blocks.Given as goal

-- each block leaves fewer samples
abbrev pub decreases-loop-play : goal.decreases-loop-play
decreases-loop-play g l = l.play.count - l.play.next
