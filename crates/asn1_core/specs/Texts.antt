-- What errors print: an error the name of its case, a reader's error what it is and then the error
-- in it.
use Rattle.std.specs.Prelude.{ℕ, List, ◌++◌, Option, Some, codes, decimal}
use Rattle.std.specs.Fmt.{◌++?◌}
use Rattle.asn1_core.specs.declared.class.Class.{Class}
use Rattle.asn1_core.specs.declared.class.Class.TheVariants as classes
use Rattle.asn1_core.specs.declared.error.Needed.{Needed}
use Rattle.asn1_core.specs.declared.error.Needed.TheVariants as needed
use Rattle.asn1_core.specs.declared.error.ErrorKind.{ErrorKind}
use Rattle.asn1_core.specs.declared.error.ErrorKind.TheVariants as kinds
use Rattle.asn1_core.specs.declared.error.Error.{Error}
use Rattle.asn1_core.specs.declared.error.Error.TheVariants as errors
use Rattle.asn1_core.specs.declared.outcome.Err.{Err as Refusal}
use Rattle.asn1_core.specs.declared.outcome.Err.TheVariants as refusals
use Rattle.asn1_core.specs.declared.serialize.SerializeError.{SerializeError}
use Rattle.asn1_core.specs.declared.serialize.SerializeError.TheVariants as writes

abbrev pub class_text : Class → List ℕ
class_text classes.Universal = codes "UNIVERSAL"
class_text classes.Application = codes "APPLICATION"
class_text classes.ContextSpecific = codes "CONTEXT-SPECIFIC"
class_text classes.Private = codes "PRIVATE"

abbrev pub kind_text : ErrorKind → List ℕ
kind_text kinds.Alt = codes "Alt"
kind_text kinds.Complete = codes "Complete"
kind_text kinds.Eof = codes "Eof"
kind_text kinds.Fail = codes "Fail"
kind_text kinds.Many0 = codes "Many0"
kind_text kinds.Many1 = codes "Many1"
kind_text kinds.MapRes = codes "MapRes"
kind_text kinds.Tag = codes "Tag"

abbrev pub error_text : Error → List ℕ
error_text errors.BerTypeError = codes "BerTypeError"
error_text errors.BerValueError = codes "BerValueError"
error_text errors.InvalidLength = codes "InvalidLength"
error_text (errors.InvalidValue tag msg) = codes "InvalidValue"
error_text errors.InvalidTag = codes "InvalidTag"
error_text errors.UnknownTag = codes "UnknownTag"
error_text (errors.UnexpectedTag expected actual) = codes "UnexpectedTag"
error_text (errors.UnexpectedClass expected actual) = codes "UnexpectedClass"
error_text errors.IndefiniteLengthUnexpected = codes "IndefiniteLengthUnexpected"
error_text errors.ConstructExpected = codes "ConstructExpected"
error_text errors.ConstructUnexpected = codes "ConstructUnexpected"
error_text errors.IntegerTooLarge = codes "IntegerTooLarge"
error_text errors.IntegerNegative = codes "IntegerNegative"
error_text errors.BerMaxDepth = codes "BerMaxDepth"
error_text errors.StringInvalidCharset = codes "StringInvalidCharset"
error_text errors.InvalidDateTime = codes "InvalidDateTime"
error_text (errors.DerConstraintFailed constraint) = codes "DerConstraintFailed"
error_text (errors.Incomplete n) = codes "Incomplete"
error_text errors.Unsupported = codes "Unsupported"
error_text (errors.NomError kind) = codes "NomError"
error_text errors.OutOfMemory = codes "OutOfMemory"

abbrev pub needed_text : Needed → List ℕ
needed_text needed.Unknown = codes "unknown"
needed_text (needed.Size n) = decimal n

-- the text of the held error is given, if its type states it
abbrev pub refusal_text : {E : Type 0} → (E → Option (List ℕ)) → Refusal E → Option (List ℕ)
refusal_text text (refusals.Incomplete n) = Some (codes "incomplete " ++ needed_text n)
refusal_text text (refusals.Error e) = Some (codes "error ") ++? text e
refusal_text text (refusals.Failure e) = Some (codes "failure ") ++? text e

abbrev pub serialize_text : SerializeError → List ℕ
serialize_text (writes.ASN1Error e) = codes "ASN1Error"
serialize_text (writes.InvalidClass class) = codes "InvalidClass"
serialize_text writes.InvalidLength = codes "InvalidLength"
serialize_text writes.IOError = codes "IOError"
serialize_text writes.OutOfMemory = codes "OutOfMemory"
