use Rattle.gs_translate.proofs.SameLinks.{canonical_translation}
use Rattle.gs_translate.proofs.laws.canonical_links_are_translations.Goals as goal

pub returns : goal.returns
returns c = canonical_translation
