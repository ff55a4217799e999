-- A tenth of a number is less than the number.
use Rattle.text.proofs.+put_natural.Given as goal

abbrev pub decreases-put-natural : goal.decreases-put-natural
decreases-put-natural l = l.n
