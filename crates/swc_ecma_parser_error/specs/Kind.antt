-- The kinds of faults without what they hold, and a fault as its kind and span.
use Rattle.std.specs.Prelude.{◌≡◌, ℕ, List, map, codes}
use Rattle.swc_ecma_parser_common.specs.declared.span.Span.{Span}
use Rattle.swc_ecma_parser_error.specs.declared.kind.SyntaxError.{SyntaxError}
use Rattle.swc_ecma_parser_error.specs.declared.kind.SyntaxError.TheVariants as v
use Rattle.swc_ecma_parser_error.specs.declared.error.Error.{Error}

pub data Kind : Type 0 where
  TS1105 : Kind
  TS1107 : Kind
  TS1115 : Kind
  TS1116 : Kind
  ReturnNotAllowed : Kind
  DuplicateLabel : Kind
  LabelledFunctionInStrict : Kind
  LabelledGeneratorOrAsync : Kind
  DuplicateConstructor : Kind
  IllegalLanguageModeDirective : Kind
  TooManyVarInForInHead : Kind
  VarInitializerInForInHead : Kind
  ExportExpectFrom : Kind
  ExportBindingIsString : Kind
  TS1005 : Kind
  TS1009 : Kind
  TS1172 : Kind
  TS1184 : Kind
  TS1089 : Kind
  InvalidLeadingDecorator : Kind
  TopLevelAwaitInScript : Kind
  ImportMetaInScript : Kind
  AwaitInFunction : Kind
  AwaitParamInAsync : Kind
  InvalidIdentInAsync : Kind
  DeclNotAllowed : Kind
  UsingDeclNotEnabled : Kind
  InvalidNameInUsingDecl : Kind
  InitRequiredForUsingDecl : Kind
  UsingDeclNotAllowedForForInLoop : Kind
  ConstDeclarationsRequireInitialization : Kind
  GeneratorConstructor : Kind
  ConstructorAccessor : Kind
  PrivateConstructor : Kind
  GetterParam : Kind
  SetterParam : Kind
  RestPatInSetter : Kind
  TrailingCommaInsideImport : Kind
  WithInStrict : Kind
  InvalidIdentInStrict : Kind
  Eof : Kind
  Expected : Kind
  Unexpected : Kind
  ExpectedIdent : Kind
  ExpectedSemiForExprStmt : Kind
  LineBreakInThrow : Kind
  MultipleDefault : Kind
  PatVarWithoutInit : Kind
  AwaitForStmt : Kind
  ImportExportInScript : Kind
  ExportNotAllowed : Kind
  DecoratorOnExport : Kind
  TS8038 : Kind
  ReservedWordInImport : Kind
  ImportBindingIsString : Kind
  PropertyNamedConstructor : Kind
  AsyncConstructor : Kind
  InvalidPat : Kind
  NotSimpleAssign : Kind
  AssignProperty : Kind
  NullishCoalescingWithLogicalOp : Kind
  UnaryInExp : Kind
  LineBreakBeforeArrow : Kind
  InvalidSuper : Kind
  WithLabel : Kind
  OutOfMemory : Kind
  TooDeep : Kind
  UnexpectedChar : Kind
  UnterminatedStrLit : Kind
  UnterminatedBlockComment : Kind
  InvalidNumber : Kind
  InvalidStrEscape : Kind
  UnterminatedRegxp : Kind
  UnterminatedTpl : Kind

-- a kind without what it holds
abbrev pub kind_of : SyntaxError → Kind
kind_of v.TS1105 = TS1105
kind_of v.TS1107 = TS1107
kind_of v.TS1115 = TS1115
kind_of v.TS1116 = TS1116
kind_of v.ReturnNotAllowed = ReturnNotAllowed
kind_of (v.DuplicateLabel a) = DuplicateLabel
kind_of v.LabelledFunctionInStrict = LabelledFunctionInStrict
kind_of v.LabelledGeneratorOrAsync = LabelledGeneratorOrAsync
kind_of v.DuplicateConstructor = DuplicateConstructor
kind_of v.IllegalLanguageModeDirective = IllegalLanguageModeDirective
kind_of v.TooManyVarInForInHead = TooManyVarInForInHead
kind_of v.VarInitializerInForInHead = VarInitializerInForInHead
kind_of (v.ExportExpectFrom a) = ExportExpectFrom
kind_of v.ExportBindingIsString = ExportBindingIsString
kind_of v.TS1005 = TS1005
kind_of v.TS1009 = TS1009
kind_of v.TS1172 = TS1172
kind_of v.TS1184 = TS1184
kind_of (v.TS1089 a) = TS1089
kind_of v.InvalidLeadingDecorator = InvalidLeadingDecorator
kind_of v.TopLevelAwaitInScript = TopLevelAwaitInScript
kind_of v.ImportMetaInScript = ImportMetaInScript
kind_of v.AwaitInFunction = AwaitInFunction
kind_of v.AwaitParamInAsync = AwaitParamInAsync
kind_of v.InvalidIdentInAsync = InvalidIdentInAsync
kind_of v.DeclNotAllowed = DeclNotAllowed
kind_of v.UsingDeclNotEnabled = UsingDeclNotEnabled
kind_of v.InvalidNameInUsingDecl = InvalidNameInUsingDecl
kind_of v.InitRequiredForUsingDecl = InitRequiredForUsingDecl
kind_of v.UsingDeclNotAllowedForForInLoop = UsingDeclNotAllowedForForInLoop
kind_of v.ConstDeclarationsRequireInitialization = ConstDeclarationsRequireInitialization
kind_of v.GeneratorConstructor = GeneratorConstructor
kind_of v.ConstructorAccessor = ConstructorAccessor
kind_of v.PrivateConstructor = PrivateConstructor
kind_of v.GetterParam = GetterParam
kind_of v.SetterParam = SetterParam
kind_of v.RestPatInSetter = RestPatInSetter
kind_of v.TrailingCommaInsideImport = TrailingCommaInsideImport
kind_of v.WithInStrict = WithInStrict
kind_of (v.InvalidIdentInStrict a) = InvalidIdentInStrict
kind_of v.Eof = Eof
kind_of (v.Expected a) = Expected
kind_of (v.Unexpected a) = Unexpected
kind_of v.ExpectedIdent = ExpectedIdent
kind_of (v.ExpectedSemiForExprStmt a) = ExpectedSemiForExprStmt
kind_of v.LineBreakInThrow = LineBreakInThrow
kind_of (v.MultipleDefault a) = MultipleDefault
kind_of v.PatVarWithoutInit = PatVarWithoutInit
kind_of v.AwaitForStmt = AwaitForStmt
kind_of v.ImportExportInScript = ImportExportInScript
kind_of v.ExportNotAllowed = ExportNotAllowed
kind_of v.DecoratorOnExport = DecoratorOnExport
kind_of v.TS8038 = TS8038
kind_of v.ReservedWordInImport = ReservedWordInImport
kind_of (v.ImportBindingIsString a) = ImportBindingIsString
kind_of v.PropertyNamedConstructor = PropertyNamedConstructor
kind_of v.AsyncConstructor = AsyncConstructor
kind_of v.InvalidPat = InvalidPat
kind_of v.NotSimpleAssign = NotSimpleAssign
kind_of v.AssignProperty = AssignProperty
kind_of v.NullishCoalescingWithLogicalOp = NullishCoalescingWithLogicalOp
kind_of v.UnaryInExp = UnaryInExp
kind_of v.LineBreakBeforeArrow = LineBreakBeforeArrow
kind_of v.InvalidSuper = InvalidSuper
kind_of (v.WithLabel' l n) = WithLabel
kind_of v.OutOfMemory = OutOfMemory
kind_of v.TooDeep = TooDeep
kind_of v.UnexpectedChar = UnexpectedChar
kind_of v.UnterminatedStrLit = UnterminatedStrLit
kind_of v.UnterminatedBlockComment = UnterminatedBlockComment
kind_of v.InvalidNumber = InvalidNumber
kind_of v.InvalidStrEscape = InvalidStrEscape
kind_of v.UnterminatedRegxp = UnterminatedRegxp
kind_of v.UnterminatedTpl = UnterminatedTpl

pub record Fault : Type 0 where
  pub span : Span
  pub kind : Kind

abbrev pub fault_of : Error → Fault
fault_of e = record { span = e.span; kind = kind_of e.kind }

abbrev pub faults_of : List Error → List Fault
faults_of = map fault_of

-- a kind's name, as the code spells it
abbrev pub name_of : Kind → List ℕ
name_of TS1105 = codes "TS1105"
name_of TS1107 = codes "TS1107"
name_of TS1115 = codes "TS1115"
name_of TS1116 = codes "TS1116"
name_of ReturnNotAllowed = codes "ReturnNotAllowed"
name_of DuplicateLabel = codes "DuplicateLabel"
name_of LabelledFunctionInStrict = codes "LabelledFunctionInStrict"
name_of LabelledGeneratorOrAsync = codes "LabelledGeneratorOrAsync"
name_of DuplicateConstructor = codes "DuplicateConstructor"
name_of IllegalLanguageModeDirective = codes "IllegalLanguageModeDirective"
name_of TooManyVarInForInHead = codes "TooManyVarInForInHead"
name_of VarInitializerInForInHead = codes "VarInitializerInForInHead"
name_of ExportExpectFrom = codes "ExportExpectFrom"
name_of ExportBindingIsString = codes "ExportBindingIsString"
name_of TS1005 = codes "TS1005"
name_of TS1009 = codes "TS1009"
name_of TS1172 = codes "TS1172"
name_of TS1184 = codes "TS1184"
name_of TS1089 = codes "TS1089"
name_of InvalidLeadingDecorator = codes "InvalidLeadingDecorator"
name_of TopLevelAwaitInScript = codes "TopLevelAwaitInScript"
name_of ImportMetaInScript = codes "ImportMetaInScript"
name_of AwaitInFunction = codes "AwaitInFunction"
name_of AwaitParamInAsync = codes "AwaitParamInAsync"
name_of InvalidIdentInAsync = codes "InvalidIdentInAsync"
name_of DeclNotAllowed = codes "DeclNotAllowed"
name_of UsingDeclNotEnabled = codes "UsingDeclNotEnabled"
name_of InvalidNameInUsingDecl = codes "InvalidNameInUsingDecl"
name_of InitRequiredForUsingDecl = codes "InitRequiredForUsingDecl"
name_of UsingDeclNotAllowedForForInLoop = codes "UsingDeclNotAllowedForForInLoop"
name_of ConstDeclarationsRequireInitialization = codes "ConstDeclarationsRequireInitialization"
name_of GeneratorConstructor = codes "GeneratorConstructor"
name_of ConstructorAccessor = codes "ConstructorAccessor"
name_of PrivateConstructor = codes "PrivateConstructor"
name_of GetterParam = codes "GetterParam"
name_of SetterParam = codes "SetterParam"
name_of RestPatInSetter = codes "RestPatInSetter"
name_of TrailingCommaInsideImport = codes "TrailingCommaInsideImport"
name_of WithInStrict = codes "WithInStrict"
name_of InvalidIdentInStrict = codes "InvalidIdentInStrict"
name_of Eof = codes "Eof"
name_of Expected = codes "Expected"
name_of Unexpected = codes "Unexpected"
name_of ExpectedIdent = codes "ExpectedIdent"
name_of ExpectedSemiForExprStmt = codes "ExpectedSemiForExprStmt"
name_of LineBreakInThrow = codes "LineBreakInThrow"
name_of MultipleDefault = codes "MultipleDefault"
name_of PatVarWithoutInit = codes "PatVarWithoutInit"
name_of AwaitForStmt = codes "AwaitForStmt"
name_of ImportExportInScript = codes "ImportExportInScript"
name_of ExportNotAllowed = codes "ExportNotAllowed"
name_of DecoratorOnExport = codes "DecoratorOnExport"
name_of TS8038 = codes "TS8038"
name_of ReservedWordInImport = codes "ReservedWordInImport"
name_of ImportBindingIsString = codes "ImportBindingIsString"
name_of PropertyNamedConstructor = codes "PropertyNamedConstructor"
name_of AsyncConstructor = codes "AsyncConstructor"
name_of InvalidPat = codes "InvalidPat"
name_of NotSimpleAssign = codes "NotSimpleAssign"
name_of AssignProperty = codes "AssignProperty"
name_of NullishCoalescingWithLogicalOp = codes "NullishCoalescingWithLogicalOp"
name_of UnaryInExp = codes "UnaryInExp"
name_of LineBreakBeforeArrow = codes "LineBreakBeforeArrow"
name_of InvalidSuper = codes "InvalidSuper"
name_of WithLabel = codes "WithLabel"
name_of OutOfMemory = codes "OutOfMemory"
name_of TooDeep = codes "TooDeep"
name_of UnexpectedChar = codes "UnexpectedChar"
name_of UnterminatedStrLit = codes "UnterminatedStrLit"
name_of UnterminatedBlockComment = codes "UnterminatedBlockComment"
name_of InvalidNumber = codes "InvalidNumber"
name_of InvalidStrEscape = codes "InvalidStrEscape"
name_of UnterminatedRegxp = codes "UnterminatedRegxp"
name_of UnterminatedTpl = codes "UnterminatedTpl"

-- the fault that stands for want of memory, where no place is known
abbrev pub no_memory : Fault
no_memory = record { span = record { lo = record { 0 = 0 }; hi = record { 0 = 0 } }; kind = OutOfMemory }

-- memory ran out
abbrev pub IsOutOfMemory : Error → Type 0
IsOutOfMemory e = kind_of e.kind ≡ OutOfMemory
