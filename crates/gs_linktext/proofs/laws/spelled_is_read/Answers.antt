use Rattle.gs_linktext.proofs.SpelledText.{is_text}
use Rattle.gs_linktext.proofs.laws.spelled_is_read.Goals as goal

pub returns : goal.returns
returns c doc shaped none = is_text doc shaped none
