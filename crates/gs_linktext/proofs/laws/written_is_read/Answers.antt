use Rattle.gs_linktext.proofs.SpelledText.{is_read, is_text, same_links}
use Rattle.gs_linktext.proofs.laws.written_is_read.Goals as goal

pub returns-clause-links : goal.returns-clause-links
returns-clause-links c doc contexts shaped none read = same_links doc contexts (is_text doc shaped none) read

pub returns-clause-read : goal.returns-clause-read
returns-clause-read c doc error shaped none rejected = is_read doc error (is_text doc shaped none) rejected
