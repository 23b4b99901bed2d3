-- Definitions for proofs and private functions, in addition to Meanings.antt.
use Rattle.std.specs.Prelude.{◌≡◌, ℕ, false, List, [], ◌∷◌}
use Rattle.gs_ai.specs.declared.part.Part.TheVariants.{NumCheck}
use Rattle.gs_ai.specs.declared.row.AiRow.{AiRow}
use Rattle.gs_ident.specs.Identities.{stands_for_none}
use Rattle.gs_epc.specs.KeptFields.{FitKind}
use Rattle.gs_epc.specs.Layout.{KeyFields}
use Rattle.gs_class.specs.declared.class_set.Class.{Class}
use Rattle.gs_class.specs.Sets.{kind_of}

-- holds if the fields of a class fit its key and its element, by the rules of classes
pub record FitsClass (ais : List AiRow) (class : Class) (said : KeyFields) : Type 0 where
  pub fit : FitKind ais (kind_of class) said
  pub k : ℕ
  pub parts : fit.of_kind.row.parts ≡ NumCheck k ∷ []
  pub counts : (value : List ℕ) → stands_for_none ais (record { code = class.element; value = value }) ≡ false
