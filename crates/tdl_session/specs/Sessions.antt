-- What a session has.
use Rattle.std.specs.Prelude.{Option, Some}
use Rattle.gs_class.specs.Sets.{ClassRows}
use Rattle.gs_translate.specs.Translations.{Translating}

-- trusted, own: the data of a session: those by which texts are translated, and the classes, if they are loaded
pub record SessionData : Type 0 where
  pub translating : Translating
  pub classes : Option ClassRows

-- trusted, own: the session with these classes in the place of what it had
abbrev pub with_classes : SessionData → ClassRows → SessionData
with_classes session classes = record { translating = session.translating; classes = Some classes }
