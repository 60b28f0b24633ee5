-- Events as contracts see them: a name as its span and its text.
use Rattle.std.specs.Prelude.{Bool}
use Rattle.ecma_events.specs.declared.event.Event.{Event as Step}
use Rattle.ecma_events.specs.declared.event.Event.TheVariants as step
use Rattle.ecma_events.specs.declared.event.Region.{Region}
use Rattle.ecma_events.specs.declared.event.Role.{Role}
use Rattle.swc_ecma_parser_common.specs.declared.span.Span.{Span}
use Rattle.swc_ecma_parser_model.specs.declared.leaves.MethodKind.{MethodKind}
use Rattle.swc_ecma_parser_model.specs.Tree.{Text}

pub data Event : Type 0 where
  enter : Region → Span → Event
  leave : Event
  body : Event
  name : Role → Span → Text → Event
  bare : Span → Event
  delete_name : Span → Event
  delete_private : Span → Event
  with : Span → Event
  super_call : Span → Event
  super_member : Span → Event
  await : Span → Event
  yield : Span → Event
  new_target : Span → Event
  old_number : Span → Event
  old_string : Span → Event
  wrong_flags : Span → Event
  private_member : MethodKind → (is_static : Bool) → Span → Text → Event
  private_use : Span → Text → Event
  prototype : Span → Event
  second_proto : Span → Event
  export : Span → Text → Event
  export_default : Span → Event
  export_local : Span → Text → Event

abbrev pub event_of : Step → Event
event_of (step.Enter region s) = enter region s
event_of step.Leave = leave
event_of step.Body = body
event_of (step.Name role x) = name role x.now.span x.now.sym
event_of (step.Bare s) = bare s
event_of (step.DeleteName s) = delete_name s
event_of (step.DeletePrivate s) = delete_private s
event_of (step.With s) = with s
event_of (step.SuperCall s) = super_call s
event_of (step.SuperMember s) = super_member s
event_of (step.Await s) = await s
event_of (step.Yield s) = yield s
event_of (step.NewTarget s) = new_target s
event_of (step.OldNumber s) = old_number s
event_of (step.OldString s) = old_string s
event_of (step.WrongFlags s) = wrong_flags s
event_of (step.PrivateMember kind is_static x) = private_member kind is_static x.now.span x.now.id.sym
event_of (step.PrivateUse x) = private_use x.now.span x.now.id.sym
event_of (step.Prototype s) = prototype s
event_of (step.SecondProto s) = second_proto s
event_of (step.Export s x) = export s x.now
event_of (step.ExportDefault s) = export_default s
event_of (step.ExportLocal s x) = export_local s x.now
