-- The measure is twice the bytes left, and one more at the blanks: a token is not empty, and the blanks before it are passed once.
use Rattle.std.proofs.Common.{◌+◌, ◌*◌, ◌-◌, length}
use Rattle.data_text.proofs.reader.+blanks_token.Given as goal

abbrev pub decreases-blanks : goal.decreases-blanks
decreases-blanks l = 2 * (length l.s.now.now - l.at.now) + 1

abbrev pub decreases-token : goal.decreases-token
decreases-token l = 2 * (length l.s.now.now - l.at.now)
