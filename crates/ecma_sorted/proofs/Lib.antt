mod Declared
