-- What a method is, as the reader knows it.
use Rattle.swc_ecma_parser_reader.specs.Methods as methods
use Rattle.swc_ecma_parser_functions.specs.declared.methods.MethodForm.{MethodForm}
use Rattle.swc_ecma_parser_functions.specs.declared.methods.MethodForm.TheVariants as form

abbrev pub form_of : MethodForm → methods.MethodForm
form_of form.Getter = methods.getter_form
form_of form.Setter = methods.setter_form
form_of (form.Method manner) = methods.method_form manner.is_async manner.is_generator
