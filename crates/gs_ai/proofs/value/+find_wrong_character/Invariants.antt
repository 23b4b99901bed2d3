use Rattle.std.proofs.Common.{length}
use Rattle.gs_ai.proofs.value.+find_wrong_character.Given as goal

abbrev pub decreases-find_wrong_character : goal.decreases-find_wrong_character
decreases-find_wrong_character l = length l.parts.now
