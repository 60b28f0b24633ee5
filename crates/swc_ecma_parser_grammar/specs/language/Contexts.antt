-- The code that a part of a form is read as: the parameters of productions (ECMA-262, section 5.1.5) and what makes code strict
-- (section 11.2.2). What is not named stays as it is around.
use Rattle.std.specs.Prelude.{Bool, true, false, not, if◌then◌else◌}
use Rattle.swc_ecma_parser_model.specs.declared.leaves.VarDeclKind.{VarDeclKind}
use Rattle.swc_ecma_parser_grammar.specs.Names.{Code}
use Rattle.swc_ecma_parser_grammar.specs.Variables.{is_var}

-- the name of a function expression: section 15.2 and its kin bind it in the function itself
abbrev pub named_by : Code → (is_async is_generator : Bool) → Code
named_by k is_async is_generator = record k { flags = record k.flags { in_async = is_async; in_generator = is_generator } }

-- the parameters of a function, method or accessor; those of constructors and arrows are read as the code around
abbrev pub in_parameters : Code → (is_async is_generator : Bool) → Code
in_parameters k is_async is_generator =
    record k { flags = record k.flags { in_parameters = true; in_function = false; in_async = is_async; in_generator = is_generator; include_in_expr = true } }

-- the body of an arrow: neither a generator's nor a static block's, and `in` is an operator where it is around
abbrev pub in_arrow : Code → (is_async : Bool) → Code
in_arrow k is_async =
    record k {
      flags = record k.flags {
        in_function = true;
        in_static_block = false;
        is_break_allowed = false;
        is_continue_allowed = false;
        in_async = is_async;
        in_generator = false;
      };
    }

-- the body of a function, method, accessor or constructor
abbrev pub in_body : Code → (is_async is_generator : Bool) → Code
in_body k is_async is_generator =
    record k {
      flags = record k.flags {
        in_function = true;
        in_static_block = false;
        is_break_allowed = false;
        is_continue_allowed = false;
        in_async = is_async;
        in_generator = is_generator;
        include_in_expr = true;
      };
    }

-- a class from its name on
abbrev pub in_class : Code → Code
in_class k = record k { flags = record k.flags { in_class = true; strict = true } }

abbrev pub in_static_block : Code → Code
in_static_block k = record k { flags = record k.flags { in_static_block = true } }

-- An `await` expression is no fault but in the body of a function that is not async, and in its parameters.
unfoldable pub may_await : Code → Bool
may_await k = if k.flags.in_function then k.flags.in_async else not k.flags.in_parameters

-- behind a directive that says so
abbrev pub in_strict : Code → Code
in_strict k = record k { flags = record k.flags { strict = true } }

-- `in` is an operator
abbrev pub with_in : Code → Code
with_in k = record k { flags = record k.flags { include_in_expr = true } }

-- the first part of a for head: `in` is no operator
abbrev pub without_in : Code → Code
without_in k = record k { flags = record k.flags { include_in_expr = false } }

-- The variables that such a part declares: the crate reads `in` in the initializers of `let` and `const`.
abbrev pub head_code : VarDeclKind → Code → Code
head_code word k = if is_var word then without_in k else with_in k

-- the body of `with` counts as a function's
abbrev pub in_with : Code → Code
in_with k = record k { flags = record k.flags { in_function = true } }

-- What `break` and `continue` may leave no rule asks for. It is said here so that the code of each part is the one that the walk
-- has for it. The body of a loop:
abbrev pub in_loop : Code → Code
in_loop k = record k { flags = record k.flags { is_break_allowed = true; is_continue_allowed = true } }

-- the cases of a `switch`, their tests too, and what stands behind a label
abbrev pub in_breakable : Code → Code
in_breakable k = record k { flags = record k.flags { is_break_allowed = true } }

-- a script is no module code
abbrev pub script_code : Code → Code
script_code k = record k { flags = record k.flags { «module» = false } }

-- an import or an export, and what stands behind it
abbrev pub in_module : Code → Code
in_module k = record k { flags = record k.flags { «module» = true; strict = true } }

-- the name that an import binds a default or a namespace to
abbrev pub outside_functions : Code → Code
outside_functions k = record k { flags = record k.flags { in_async = false; in_generator = false } }
