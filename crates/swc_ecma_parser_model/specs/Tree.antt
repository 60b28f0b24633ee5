-- A tree as plain data: one constructor for each form. Which form may stand where is the grammar's to say.
-- A name is an `ident`; a part that may be left out is `absent` there; parts one behind another are a `list`.
use Rattle.std.specs.Prelude.{ℕ, Bool, List, [], ◌∷◌, Option}
use Rattle.swc_ecma_parser_common.specs.declared.span.Span.{Span}
use Rattle.swc_ecma_parser_model.specs.declared.leaves.VarDeclKind.{VarDeclKind}
use Rattle.swc_ecma_parser_model.specs.declared.leaves.MethodKind.{MethodKind}
use Rattle.swc_ecma_parser_model.specs.declared.leaves.ImportPhase.{ImportPhase}
use Rattle.swc_ecma_parser_model.specs.declared.leaves.MetaPropKind.{MetaPropKind}
use Rattle.swc_ecma_parser_model.specs.declared.operators.UnaryOp.{UnaryOp}
use Rattle.swc_ecma_parser_model.specs.declared.operators.UpdateOp.{UpdateOp}
use Rattle.swc_ecma_parser_model.specs.declared.operators.BinaryOp.{BinaryOp}
use Rattle.swc_ecma_parser_model.specs.declared.operators.AssignOp.{AssignOp}

abbrev pub Text : Type 0
Text = List ℕ

mutual
  pub data Tree : Type 0 where
    -- a part that is left out
    absent : Tree
    -- trees one behind another
    list : Trees → Tree
    -- names and literals
    ident : Span → Text → Tree
    str : Span → (value raw : Text) → Tree
    bool : Span → Bool → Tree
    null : Span → Tree
    num : Span → (raw : Text) → Tree
    big_int : Span → (raw : Text) → Tree
    regex : Span → (exp flags : Text) → Tree
    -- further primary expressions: the elements of an array are `element` or, for a hole, `absent`
    this : Span → Tree
    array : Span → (elems : Tree) → Tree
    object : Span → (props : Tree) → Tree
    fn_expr : Span → (name fn : Tree) → Tree
    class_expr : Span → (name body : Tree) → Tree
    paren : Span → (expr : Tree) → Tree
    meta_prop : Span → MetaPropKind → Tree
    -- what no text spells
    invalid : Span → Tree
    -- operators: what is assigned to is an expression (a bare name `ident`), or an array or object pattern
    unary : Span → UnaryOp → (arg : Tree) → Tree
    update : Span → UpdateOp → (prefix : Bool) → (arg : Tree) → Tree
    bin : Span → BinaryOp → (left right : Tree) → Tree
    assign : Span → AssignOp → (left right : Tree) → Tree
    cond : Span → (test cons alt : Tree) → Tree
    seq : Span → (exprs : Tree) → Tree
    -- members and calls: of `new`, no arguments where it has no parentheses
    member : Span → (obj prop : Tree) → Tree
    super_prop : Span → (word : Span) → (prop : Tree) → Tree
    call : Span → (callee args : Tree) → Tree
    new : Span → (callee args : Tree) → Tree
    -- templates: the expressions, and the texts around them, one more, each a `quasi`; a tag stands before a `tpl`
    tpl : Span → (exprs quasis : Tree) → Tree
    tagged_tpl : Span → (tag tpl : Tree) → Tree
    -- a link of an optional chain: a `member` or a `call` of the same span, behind `?.` or not
    opt_chain : Span → (optional : Bool) → (base : Tree) → Tree
    -- an arrow's parameters are patterns, its body a `block` or an expression
    arrow : Span → (params body : Tree) → (is_async : Bool) → Tree
    yield : Span → (arg : Tree) → (delegate : Bool) → Tree
    await : Span → (arg : Tree) → Tree
    -- parts of expressions: an element or argument, with its dots where it is spread; `#` and a word; a key in brackets
    element : (spread : Option Span) → (expr : Tree) → Tree
    private_name : Span → (word : Span) → Text → Tree
    computed : Span → (expr : Tree) → Tree
    -- what `super(..)` and `import(..)` call
    super_callee : Span → Tree
    import_callee : Span → Tree
    -- a text of a template, `cooked` where each escape in it is one
    quasi : Span → (tail : Bool) → (cooked : Option Text) → (raw : Text) → Tree
    -- parts of objects: a key is an `ident`, `str`, `num`, `big_int` or `computed`; a spread has its dots' span
    spread_prop : (dots : Span) → (expr : Tree) → Tree
    shorthand_prop : Span → Text → Tree
    key_value_prop : Span → (key value : Tree) → Tree
    assign_prop : Span → (key value : Tree) → Tree
    getter_prop : Span → (key body : Tree) → Tree
    setter_prop : Span → (key param body : Tree) → Tree
    method_prop : Span → (key fn : Tree) → Tree
    -- patterns: the key of an `assign_pat_prop` is an `ident_pat`; `expr_pat` is a member or parentheses
    ident_pat : Span → Text → Tree
    array_pat : Span → (elems : Tree) → Tree
    rest_pat : Span → (arg : Tree) → Tree
    object_pat : Span → (props : Tree) → Tree
    key_value_pat_prop : Span → (key value : Tree) → Tree
    assign_pat_prop : Span → (key value : Tree) → Tree
    assign_pat : Span → (left right : Tree) → Tree
    expr_pat : (expr : Tree) → Tree
    invalid_pat : Span → Tree
    -- functions: of a declaration, an expression, a method; its parameters are `param`, its body is a `block`
    function : Span → (decorators params body : Tree) → (is_async is_generator : Bool) → Tree
    param : Span → (decorators pat : Tree) → Tree
    decorator : Span → (expr : Tree) → Tree
    -- classes: the key of a private member is a `private_name`, that of an `auto_accessor` one or a key of objects
    class : Span → (decorators body super_class : Tree) → Tree
    constructor : Span → (key params body : Tree) → Tree
    method : Span → (key fn : Tree) → MethodKind → (is_static : Bool) → Tree
    private_method : Span → (key fn : Tree) → MethodKind → (is_static : Bool) → Tree
    class_prop : Span → (key value : Tree) → (is_static : Bool) → (decorators : Tree) → Tree
    private_prop : Span → (key value : Tree) → (is_static : Bool) → (decorators : Tree) → Tree
    auto_accessor : Span → (key value : Tree) → (is_static : Bool) → (decorators : Tree) → Tree
    static_block : Span → (body : Tree) → Tree
    empty_member : Span → Tree
    -- declarations
    class_decl : (name body : Tree) → Tree
    fn_decl : (name fn : Tree) → Tree
    var : Span → VarDeclKind → (decls : Tree) → Tree
    using : Span → (is_await : Bool) → (decls : Tree) → Tree
    declarator : Span → (name init : Tree) → Tree
    -- statements; a declaration in the place of one is that declaration
    block : Span → (stmts : Tree) → Tree
    empty : Span → Tree
    debugger : Span → Tree
    with : Span → (obj body : Tree) → Tree
    return : Span → (arg : Tree) → Tree
    labeled : Span → (label body : Tree) → Tree
    break : Span → (label : Tree) → Tree
    continue : Span → (label : Tree) → Tree
    if_stmt : Span → (test cons alt : Tree) → Tree
    switch : Span → (discriminant cases : Tree) → Tree
    case : Span → (test cons : Tree) → Tree
    throw : Span → (arg : Tree) → Tree
    try : Span → (body handler finalizer : Tree) → Tree
    catch : Span → (param body : Tree) → Tree
    while : Span → (test body : Tree) → Tree
    do_while : Span → (test body : Tree) → Tree
    for : Span → (init test next body : Tree) → Tree
    for_in : Span → (left right body : Tree) → Tree
    for_of : Span → (is_await : Bool) → (left right body : Tree) → Tree
    expr_stmt : Span → (expr : Tree) → Tree
    -- imports and exports: `src` is a `str`, `attributes` an `object`; a name of a module's is an `ident` or a `str`
    import : Span → (specifiers src attributes : Tree) → ImportPhase → Tree
    import_named : Span → (local imported : Tree) → Tree
    import_default : Span → (local : Tree) → Tree
    import_namespace : Span → (local : Tree) → Tree
    export_decl : Span → (decl : Tree) → Tree
    export_named : Span → (specifiers src attributes : Tree) → Tree
    export_default_decl : Span → (decl : Tree) → Tree
    export_default_expr : Span → (expr : Tree) → Tree
    export_all : Span → (src attributes : Tree) → Tree
    export_namespace : Span → (name : Tree) → Tree
    export_default : (exported : Tree) → Tree
    export_specifier : Span → (orig exported : Tree) → Tree
    -- wholes: their items, and the text of a first line `#!`
    script : Span → (body : Tree) → Option Text → Tree
    module_program : Span → (body : Tree) → Option Text → Tree

  pub data Trees : Type 0 where
    none : Trees
    also : Tree → Trees → Trees

abbrev pub trees : List Tree → Trees
trees [] = none
trees (x ∷ xs) = also x (trees xs)

-- a list of trees as one tree
abbrev pub listed : List Tree → Tree
listed xs = list (trees xs)
