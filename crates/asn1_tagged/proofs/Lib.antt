mod Refusing
mod Headed
